-- The formula of a text from its index: the verdict of the first call is that of the formula.
use mathlib.Core.Path.{◌≡◌, sym, ap, ◌∙◌}
use mathlib.Core.Bool.{Bool, true, false}
use mathlib.Core.List.{List, [], ◌∷◌, ◌++◌}
use Prim.Native.Nat.{ℕ, zero, suc, ◌+◌, ◌-◌, ◌≤◌, ◌<◌, min}
use native.Mathlib.Nat.{mod-eq_of_lt}
use native.Mathlib.Numerals.{add-one}
use native.Mathlib.Omega.{arith}
use lib.Dec.{T}
use lib.ListN.{get_or, length, replicate}
use Rattle.mask.proofs.Logic.{fails, clash, by_eq, and_in, and_out}
use Rattle.buffer.specs.Stored.{joined}
use Rattle.buffer.proofs.StoredLaws.{joined_same, one_each}
use Rattle.formula.specs.Formula.{Literal, judged, judge_formula}
use Rattle.formula.specs.Text.{number_at, after, literals_at, blocks_at, blocks_end, clauses_at, read_text}
use Rattle.formula.specs.Ordered.{ascending, all_ascend}
use Rattle.formula_index.specs.Chains.{last_from, before, place_of, last_of, start_to, next_to, head_to}
use Rattle.formula_index.specs.Marked.{marked, ranked}
use Rattle.formula_index.specs.declared.reading.Number.{Number}
use Rattle.formula_index.proofs.ChainLaws.{clauses_listed, start-place, head_before, next-before, head_most, next_falls}
use Rattle.formula_index.proofs.MarkedLaws.{marked-ranked}
use Rattle.formula_judge.specs.Judgeable.{Judgeable}
use Rattle.formula_judge.specs.Rest.{values_in, Links, clause_at, Formed, Rest}
use Rattle.formula_judge.proofs.JudgeLaws.{last_most, last_none, judged-agree, won_holds}
use Rattle.formula_judge.proofs.WalkLaws.{before-some, before_none}

-- ---- clauses one behind another

ascend_parts : (most : ℕ) (xs ys : List (List Literal)) → T (all_ascend most (xs ++ ys)) → T (all_ascend most xs) × T (all_ascend most ys)
unfolding all_ascend
ascend_parts most [] ys t = (tt, t)
ascend_parts most (c ∷ xs) ys t =
    let r = and_out (ascending most 0 c) (all_ascend most (xs ++ ys)) t in
    let q = ascend_parts most xs ys r.1 in
    (and_in (ascending most 0 c) (all_ascend most xs) r.0 q.0, q.1)

ascend_each : (most : ℕ) (g : ℕ → List Literal) (c : ℕ) → T (all_ascend most (joined (λ k. g k ∷ []) c)) → (k : ℕ) → k < c → T (ascending most 0 (g k))
unfolding joined all_ascend
ascend_each most g zero t k h = absurd (omega arith)
ascend_each most g (suc c) t k h =
    let r = ascend_parts most (joined (λ k. g k ∷ []) c) (g c ∷ []) t in
    by_eq k c (λ e. rw e (and_out (ascending most 0 (g c)) true r.1).0) (λ e. ascend_each most g c r.0 k (omega arith))

-- Boolean 0 has no value.
none_given : (values : List Bool) → get_or values 0 false ≡ false → (b : ℕ) → b ≡ 0 → values_in values b ≡ false
unfolding values_in
none_given values g b e = rw e g

-- ---- the index of a text

-- What is read of it: booleans, clauses, the place of the first clause, the arrays.
pub record Indexed (t : List ℕ) (count n q : ℕ) (start next head : List ℕ) (sides : List Bool) : Type 0 where
  pub booleans : count ≡ min (number_at t 6) 512
  pub clauses : n ≡ min (number_at t (after t 6)) 127008
  pub place : q ≡ blocks_end t (suc count) (suc count) (after t (after t 6))
  pub marks : sides ≡ marked (replicate 513 false) (blocks_at t (suc count) (suc count) (after t (after t 6)))
  pub starts : start ≡ start_to t (suc count) q (replicate 127008 0) n
  pub nexts : next ≡ next_to t (suc count) q (replicate 127008 0) (replicate 513 0) n
  pub heads : head ≡ head_to t (suc count) q (replicate 513 0) n

-- As it is read: the two numbers of the first line, the lines of the prefix, the clauses.
pub indexed : {t : List ℕ} {v c : Number} {count n q : ℕ} {start next head : List ℕ} {sides : List Bool}
    → (v.value ≡ number_at t 6) × (v.after ≡ after t 6) → (c.value ≡ number_at t v.after) × (c.after ≡ after t v.after)
    → count ≡ min v.value 512 → n ≡ min c.value 127008
    → q ≡ blocks_end t (count + 1) (count + 1) c.after → sides ≡ marked (replicate 513 false) (blocks_at t (count + 1) (count + 1) c.after)
    → start ≡ start_to t (count + 1) q (replicate 127008 0) n → next ≡ next_to t (count + 1) q (replicate 127008 0) (replicate 513 0) n
    → head ≡ head_to t (count + 1) q (replicate 513 0) n → Indexed t count n q start next head sides
indexed {t} {v} {c} {count} a b e f g s x y z =
    let p : c.after ≡ after t (after t 6) = b.1 ∙ ap (after t) a.1 in record {
      booleans = e ∙ ap (λ (k : ℕ). min k 512) a.0;
      clauses = f ∙ ap (λ (k : ℕ). min k 127008) (b.0 ∙ ap (number_at t) a.1);
      place = rw (add-one, p) at g;
      marks = rw (add-one, p) at s;
      starts = rw add-one at x;
      nexts = rw add-one at y;
      heads = rw add-one at z;
    }

module _ {t : List ℕ} {count n q : ℕ} {start next head : List ℕ} {sides : List Bool} (I : Indexed t count n q start next head sides) where
  -- Of any text: its chains link, and go down.
  links_by : Links (last_of t (suc count) q) n next head
  links_by =
      let m : n ≤ 127008 = let e = I.clauses in omega arith in record {
        most = m;
        next = λ k h. rw I.nexts (next-before t (suc count) q n k h m);
        head = λ v h. rw I.heads (head_before t (suc count) q n v h);
      }

  pub inside_by : (v : ℕ) → get_or head v 0 ≤ 127008
  inside_by v = let e = I.clauses in let h = head_most t (suc count) q 513 n v in rw I.heads (omega arith)

  pub falls_by : (k : ℕ) → get_or next k 0 ≤ k
  falls_by k = rw I.nexts (next_falls t (suc count) q 127008 513 n k)

  module _ (J : Judgeable t) where
    all_booleans : count ≡ number_at t 6
    all_booleans = let e = I.booleans in let h = J.header in let b = J.booleans in omega arith

    all_prefix : (read_text t).prefix ≡ ranked (λ b. get_or sides b false) count 1
    unfolding read_text
    all_prefix =
        rw (I.marks, all_booleans)
        (marked-ranked (read_text t).prefix 1 J.ordered.prefix (let b = J.booleans in omega arith)
        ∙ ap (λ (k : ℕ). ranked (λ b. get_or (marked (replicate 513 false) (read_text t).prefix) b false) k 1) J.header)

    most_clauses : n ≤ 127008
    most_clauses = let e = I.clauses in omega arith

    number_clauses : length (read_text t).clauses ≡ number_at t (after t 6)
    unfolding read_text
    number_clauses =
        ap length (clauses_listed t (suc (number_at t 6)) (blocks_end t (suc (number_at t 6)) (suc (number_at t 6)) (after t (after t 6))) (number_at t (after t 6)))
        ∙ one_each (λ k. literals_at t (suc (number_at t 6)) (place_of t (suc (number_at t 6)) (blocks_end t (suc (number_at t 6)) (suc (number_at t 6)) (after t (after t 6))) k))
        (number_at t (after t 6))

    all_number : n ≡ number_at t (after t 6)
    all_number = let e = I.clauses in let c = number_clauses in let m = J.clauses in omega arith

    place_at : (k : ℕ) → k < n → get_or start k 0 ≡ place_of t (suc count) q k
    place_at k h = rw I.starts (start-place t (suc count) q n k h most_clauses)

    read_clauses : (read_text t).clauses ≡ clauses_at t (suc count) n q
    unfolding read_text
    read_clauses = rw (I.place, all_number, all_booleans)

    all_clauses : (read_text t).clauses ≡ joined (λ k. clause_at t start (suc count) k ∷ []) n
    unfolding clause_at
    all_clauses =
        read_clauses ∙ clauses_listed t (suc count) q n
        ∙ joined_same (λ k. literals_at t (suc count) (place_of t (suc count) q k) ∷ []) (λ k. clause_at t start (suc count) k ∷ []) n
        (λ k h. ap (λ (p : ℕ). literals_at t (suc count) p ∷ []) (sym (place_at k h)))

    ascends_by : (k : ℕ) → k < n → T (ascending count 0 (clause_at t start (suc count) k))
    ascends_by = ascend_each count (clause_at t start (suc count)) n (rw (← all_clauses, all_booleans, ← J.header) J.ordered.clauses)

    ends_by : (k : ℕ) → k < n → last_of t (suc count) q k ≡ last_from 0 (clause_at t start (suc count) k)
    unfolding last_of clause_at
    ends_by k h =
        let l = last_most count 0 (clause_at t start (suc count) k) (omega arith) (ascends_by k h) in
        let b = I.booleans in
        rw (← (place_at k h)) (mod-eq_of_lt (omega arith))

    formed_by : Formed t start next head sides count (last_of t (suc count) q) n
    formed_by = record { links = links_by; ends = ends_by; ascends = ascends_by }

    formula_by : judge_formula (read_text t)
        ≡ judged (joined (λ k. clause_at t start (suc count) k ∷ []) n) (ranked (λ b. get_or sides b false) count 1) (λ v. false)
    unfolding judge_formula
    formula_by = rw (all_clauses, all_prefix)

    module _ {x : ℕ} (e : x ≡ get_or head 0 0) where
      first-before : x ≡ before (last_of t (suc count) q) n 0
      first-before = e ∙ links_by.head 0 (omega arith)

      -- Some clause has no literals: the formula is lost.
      pub lost_by : ¬ (x ≡ 0) → false ≡ judge_formula (read_text t)
      lost_by d =
          let f = first-before in
          let r = before-some (last_of t (suc count) q) 0 n (x - 1) (omega arith) in
          sym (formula_by ∙ fails (λ w.
          let c = clause_at t start (suc count) (x - 1) in
          let l = ends_by (x - 1) r.0 in let z = r.1 in
          clash (last_none (λ v. false) count c (ascends_by (x - 1) r.0) (omega arith))
          (won_holds (clause_at t start (suc count)) (λ b. get_or sides b false) n count count 0 (λ v. false) w (x - 1) r.0 (ascends_by (x - 1) r.0) (omega arith))))

      -- None is empty: the first call replies the verdict.
      pub judged_by_lem : x ≡ 0 → {values values' : List Bool} {r : Bool} → get_or values 0 false ≡ false → Rest t start next head sides count count values values' r
          → r ≡ judge_formula (read_text t)
      judged_by_lem z {values} g R =
          let f = first-before in
          let o : suc (count - count) ≡ 1 = omega arith in
          (rw o at (R.verdict (last_of t (suc count) q) n formed_by))
          (λ k h l. absurd (before_none (last_of t (suc count) q) 0 n (omega arith) k h (omega arith)))
          ∙ judged-agree (clause_at t start (suc count)) (λ b. get_or sides b false) n count count 0 (values_in values) (λ v. false) (omega arith) ascends_by
          (λ b h. none_given values g b (omega arith))
          ∙ sym formula_by
