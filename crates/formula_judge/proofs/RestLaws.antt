-- One call of the judge: boolean v tried with a value, and the reply from its two values.
use mathlib.Core.Path.{◌≡◌, refl, sym, ◌∙◌}
use mathlib.Core.Bool.{Bool, true, false, beq, cond, not, ◌&&◌, ◌||◌}
use mathlib.Core.List.{List, [], ◌∷◌}
use Prim.Native.Nat.{ℕ, suc, ◌+◌, ◌-◌, ◌%◌, ◌≤◌, ◌<◌}
use native.Mathlib.Nat.{mod-eq_of_lt}
use native.Mathlib.Numerals.{add-one}
use native.Mathlib.Omega.{arith}
use lib.Dec.{T, eqb, eqb→eq, eqb_refl}
use lib.ListN.{get_or, length, set, length-set}
use lib.Seq.{get_or-set_same, get_or-set_other}
use Rattle.mask.proofs.Logic.{fails, clash, true_holds, by_eq}
use Rattle.mask.proofs.Range.{each_in, each_out}
use Rattle.buffer.specs.Stored.{joined}
use Rattle.formula.specs.Formula.{Literal, assign, clause_holds, judged}
use Rattle.formula_theory.proofs.Blocks.{assign_at, assign_off}
use Rattle.formula_index.specs.Marked.{ranked}
use Rattle.formula_judge.specs.Rest.{values_in, Links, hold_at, clause_at, Formed, SettledTo, Rest}
use Rattle.formula_judge.proofs.JudgeLaws.{assign-agree, last_most, last-agree, judged-agree, won_holds, won_all}

-- ---- values

-- Booleans up to 512 have the values at their own places.
pub value_same : (l l' : List Bool) (b : ℕ) → b ≤ 512 → get_or l b false ≡ get_or l' b false → values_in l b ≡ values_in l' b
unfolding values_in
value_same l l' b h e = let m : b % 513 ≡ b = mod-eq_of_lt (omega arith) in rw m e

-- Storing a value assigns it.
pub value_set : (l : List Bool) (v : ℕ) (x : Bool) → length l ≡ 513 → v ≤ 512 → (b : ℕ) → b ≤ 512 → values_in (set l v x) b ≡ assign (values_in l) v x b
unfolding values_in
value_set l v x e h b k =
    let m : b % 513 ≡ b = mod-eq_of_lt (omega arith) in
    by_eq b v
    (λ z. rw m (rw z (get_or-set_same l v x false (omega arith) ∙ sym (assign_at (values_in l) v x))))
    (λ z. rw m (get_or-set_other l v b x false z) ∙ sym (assign_off (values_in l) v x b z))

-- The reply of a turn of side u, from the verdicts x and y of its values: the first where it decides, else the second.
first_decides : (u r x y : Bool) → r ≡ x → not (beq r u) ≡ true → r ≡ cond u (x && y) (x || y)
first_decides true true x y e q = absurd (true_holds q)
first_decides true false x y e q = rw (← e)
first_decides false true x y e q = rw (← e)
first_decides false false x y e q = absurd (true_holds q)

second_decides : (u a r x y : Bool) → a ≡ x → not (beq a u) ≡ false → r ≡ y → r ≡ cond u (x && y) (x || y)
second_decides true true r x y e q h = rw (← e) h
second_decides true false r x y e q h = absurd (true_holds (sym q))
second_decides false true r x y e q h = absurd (true_holds (sym q))
second_decides false false r x y e q h = rw (← e) h

-- ---- a call

module _ (t start next head : List ℕ) (sides : List Bool) (count : ℕ) where
  -- The clauses, and the sides of booleans.
  abbrev clause : ℕ → List Literal
  clause = clause_at t start (suc count)

  abbrev side : ℕ → Bool
  side b = get_or sides b false

  module _ {last : ℕ → ℕ} {c : ℕ} (F : Formed t start next head sides count last c) where
    -- What holds with a last boolean below v holds under any values that are the same below v.
    settled_same : (v : ℕ) (l l' : List Bool) → v ≤ 513 → ((b : ℕ) → b < v → get_or l' b false ≡ get_or l b false)
        → SettledTo t start next head sides count last c v l → SettledTo t start next head sides count last c v l'
    settled_same v l l' h e S k m n =
        rw (last-agree (values_in l') (values_in l) count (last k) (clause k) (F.ascends k m) (let z = F.ends k m in omega arith)
        (λ b i. value_same l' l b (omega arith) (e b (omega arith)))) (S k m n)

    -- With those whose last boolean is v all up to v hold.
    settled_more : (v : ℕ) (l : List Bool) → SettledTo t start next head sides count last c v l → T (hold_at t start (suc count) last c v l)
        → SettledTo t start next head sides count last c (suc v) l
    unfolding hold_at
    settled_more v l S d k m n =
        by_eq (last k) v
        (λ e. each_out c (λ k. eqb (last k) v) (λ k. clause_holds (values_in l) (clause k)) d k m (rw e (eqb_refl v)))
        (λ e. S k m (omega arith))

    -- A branch that is won leaves none of them false.
    won_at : (left v : ℕ) (l : List Bool) → T (judged (joined (λ k. clause k ∷ []) c) (ranked side left (suc v)) (values_in l))
        → T (hold_at t start (suc count) last c v l)
    unfolding hold_at
    won_at left v l w =
        each_in c (λ k. eqb (last k) v) (λ k. clause_holds (values_in l) (clause k))
        (λ k m n. won_holds clause side c count left v (values_in l) w k m (F.ascends k m) (let z = F.ends k m in let y = eqb→eq (last k) v n in omega arith))

  -- What a call knows behind trying value x for boolean v with `left` to come: the values left, and the verdict.
  pub record Tried (left v : ℕ) (x : Bool) (values values' : List Bool) (r : Bool) : Type 0 where
    pub size : length values' ≡ 513
    pub kept : (b : ℕ) → b < v → get_or values' b false ≡ get_or values b false
    pub verdict : (last : ℕ → ℕ) (c : ℕ) → Formed t start next head sides count last c → SettledTo t start next head sides count last c v values
        → r ≡ judged (joined (λ k. clause k ∷ []) c) (ranked side left (suc v)) (assign (values_in values) v x)

  module _ (left v : ℕ) (x : Bool) (l l₁ : List Bool) (size : length l ≡ 513) (e : l₁ ≡ set l v x) (all : v + left ≡ count) (most : count ≤ 512) where
    given_same : {last : ℕ → ℕ} {c : ℕ} → Formed t start next head sides count last c
        → judged (joined (λ k. clause k ∷ []) c) (ranked side left (suc v)) (values_in l₁)
        ≡ judged (joined (λ k. clause k ∷ []) c) (ranked side left (suc v)) (assign (values_in l) v x)
    given_same {c = c} F =
        judged-agree clause side c count left v (values_in l₁) (assign (values_in l) v x) (omega arith) F.ascends
        (λ b h. rw e (value_set l v x size (omega arith) b (omega arith)))

    -- A clause that v decides is false.
    pub tried_cut : (d : Bool) → d ≡ false → ((last : ℕ → ℕ) (c : ℕ) → Links last c next head → d ≡ hold_at t start (count + 1) last c v l₁)
        → Tried left v x l l₁ false
    tried_cut d f h = record {
      size = rw (e, length-set) size;
      kept = λ b k. rw e (get_or-set_other l v b x false (omega arith));
      verdict = λ last c F S. sym (sym (given_same F) ∙ fails (λ w. clash (sym (rw add-one at (h last c F.links)) ∙ f) (won_at F left v l₁ w)));
    }

    -- None is, and the rest is judged.
    pub tried_rest : (d : Bool) → d ≡ true → ((last : ℕ → ℕ) (c : ℕ) → Links last c next head → d ≡ hold_at t start (count + 1) last c v l₁)
        → (l₂ : List Bool) (r : Bool) → Rest t start next head sides count left l₁ l₂ r → Tried left v x l l₂ r
    tried_rest d f h l₂ r R =
        let n : count - left ≡ v = omega arith in record {
          size = R.size;
          kept = λ b k. R.kept b (omega arith) ∙ rw e (get_or-set_other l v b x false (omega arith));
          verdict = λ last c F S.
              (rw n at (R.verdict last c F)) (settled_more F v l₁ (settled_same F v l l₁ (omega arith) (λ b k. rw e (get_or-set_other l v b x false (omega arith))) S)
              (true_holds (sym (rw add-one at (h last c F.links)) ∙ f))) ∙ given_same F;
        }

  -- The same under other names.
  pub tried_as : {left v : ℕ} {x : Bool} {l l₁ l₂ : List Bool} {r r' : Bool} → Tried left v x l l₁ r → l₂ ≡ l₁ → r' ≡ r → Tried left v x l l₂ r'
  tried_as T e f = rw (e, f) T

  -- No boolean is to come.
  pub rest_none : (left : ℕ) (l : List Bool) → length l ≡ 513 → left ≡ 0 → Rest t start next head sides count left l l true
  rest_none left l z e = record {
    size = z;
    kept = λ b h. refl;
    verdict = λ last c F S.
        rw e (sym (won_all clause side c (suc (count - 0)) (values_in l)
        (λ k h. S k h (let z = F.ends k h in let y = last_most count 0 (clause k) (omega arith) (F.ascends k h) in omega arith))));
  }

  module _ (left left' v : ℕ) (l l₁ : List Bool) (a u : Bool) (e : left ≡ suc left') (all : v + left' ≡ count) (least : 0 < v) (most : count ≤ 512)
      (s : u ≡ side v) (first : Tried left' v false l l₁ a) where
    pub rest-first : not (beq a u) ≡ true → Rest t start next head sides count left l l₁ a
    unfolding judged ranked
    rest-first q =
        let n : suc (count - left) ≡ v = omega arith in record {
          size = first.size;
          kept = λ b h. first.kept b (omega arith);
          verdict = λ last c F S. rw (n, e) (first_decides (side v) a _ _ (first.verdict last c F (rw n at S)) (rw (← s) q));
        }

    pub rest_second : not (beq a u) ≡ false → (l₂ : List Bool) (r : Bool) → Tried left' v true l₁ l₂ r → Rest t start next head sides count left l l₂ r
    unfolding judged ranked
    rest_second q l₂ r second =
        let n : suc (count - left) ≡ v = omega arith in record {
          size = second.size;
          kept = λ b h. second.kept b (omega arith) ∙ first.kept b (omega arith);
          verdict = λ last c F S.
              rw (n, e) (second_decides (side v) a r _ _ (first.verdict last c F (rw n at S)) (rw (← s) q)
              (second.verdict last c F (settled_same F v l l₁ (omega arith) first.kept (rw n at S)) ∙ given F));
        }
      where
        given : {last : ℕ → ℕ} {c : ℕ} → Formed t start next head sides count last c
            → judged (joined (λ k. clause k ∷ []) c) (ranked side left' (suc v)) (assign (values_in l₁) v true)
            ≡ judged (joined (λ k. clause k ∷ []) c) (ranked side left' (suc v)) (assign (values_in l) v true)
        given {c = c} F =
            judged-agree clause side c count left' v (assign (values_in l₁) v true) (assign (values_in l) v true) (omega arith) F.ascends
            (λ b h. assign-agree (values_in l₁) (values_in l) v true b (λ z. value_same l₁ l b (omega arith) (first.kept b (omega arith))))
