-- The booleans of a problem's formula are 1, 2, .. in the prefix, and ascend in each clause.
use mathlib.Core.Path.{◌≡◌, refl}
use mathlib.Core.Bool.{Bool, true, false, cond, not, ◌&&◌}
use mathlib.Core.List.{List, [], ◌∷◌, ◌++◌}
use Prim.Native.Nat.{ℕ, zero, suc, ◌+◌, ◌≤◌, ◌<◌}
use native.Mathlib.Omega.{arith}
use lib.Dec.{T, eqb, eqb_refl, ltb, lt→ltb, ltb→lt, leb, le→leb, leb→le}
use lib.ListN.{length}
use Rattle.mask.specs.Mask.{bit}
use Rattle.mask.proofs.Logic.{and_in, and_out}
use Rattle.game.specs.Problem.{Problem}
use Rattle.buffer.specs.Stored.{joined}
use Rattle.formula.specs.Formula.{Literal, Quantified, only_if}
use Rattle.formula.specs.Encoding.{run, size, width, base, boolean_of, ways, denial, at_least_one, closes, fresh, prefix_from, formula_of}
use Rattle.formula.specs.Ordered.{counting, ascending, all_ascend, Ordered}
use Rattle.formula_theory.proofs.Widths.{width_existential, ways_existential, base-before, base_suc}
use Rattle.formula_theory.proofs.Forms.{all_have, Forms, all_forms}
use Rattle.formula_theory.proofs.PrefixLaws.{booleans_all}

-- ---- literals that ascend

ascending-one : (most v : ℕ) (l : Literal) (ls : List Literal) → v < l.boolean → l.boolean ≤ most → T (ascending most l.boolean ls) → T (ascending most v (l ∷ ls))
unfolding ascending
ascending-one most v l ls h k t =
    and_in (ltb v l.boolean && leb l.boolean most) (ascending most l.boolean ls)
    (and_in (ltb v l.boolean) (leb l.boolean most) (lt→ltb v l.boolean h) (le→leb l.boolean most k)) t

pub ascending_out : (most v : ℕ) (l : Literal) (ls : List Literal) → T (ascending most v (l ∷ ls)) → (v < l.boolean) × (l.boolean ≤ most) × T (ascending most l.boolean ls)
unfolding ascending
ascending_out most v l ls t =
    let r = and_out (ltb v l.boolean && leb l.boolean most) (ascending most l.boolean ls) t in
    let q = and_out (ltb v l.boolean) (leb l.boolean most) r.0 in
    (ltb→lt v l.boolean q.0, leb→le l.boolean most q.1, r.1)

-- Between wider bounds.
ascending_wider : (most most' v v' : ℕ) (ls : List Literal) → most ≤ most' → v' ≤ v → T (ascending most v ls) → T (ascending most' v' ls)
unfolding ascending
ascending_wider most most' v v' [] h k t = tt
ascending_wider most most' v v' (l ∷ ls) h k t =
    let r = ascending_out most v l ls t in
    let a = r.0 in let b = r.1 in
    ascending-one most' v' l ls (omega arith) (omega arith) (ascending_wider most most' l.boolean l.boolean ls h (omega arith) r.2)

-- Up to w, and from there on.
ascending-both : (most v w : ℕ) (xs ys : List Literal) → v ≤ w → w ≤ most → T (ascending w v xs) → T (ascending most w ys) → T (ascending most v (xs ++ ys))
ascending-both most v w [] ys h k t u = ascending_wider most most w v ys (omega arith) h u
ascending-both most v w (l ∷ xs) ys h k t u =
    let r = ascending_out w v l xs t in
    let a = r.0 in let b = r.1 in
    ascending-one most v l (xs ++ ys) a (omega arith) (ascending-both most l.boolean w xs ys b k r.2 u)

-- One literal for each of the booleans v + 1, v + 2, ..
ascending-each : (g : ℕ → Literal) (v k : ℕ) → ((t : ℕ) → (g t).boolean ≡ suc (v + t)) → T (ascending (v + k) v (joined (λ t. g t ∷ []) k))
unfolding joined ascending
ascending-each g v zero e = tt
ascending-each g v (suc k) e =
    let b = e k in
    ascending-both (v + suc k) v (v + k) (joined (λ t. g t ∷ []) k) (g k ∷ []) (omega arith) (omega arith)
    (ascending-each g v k e) (ascending-one (v + suc k) (v + k) (g k) [] (omega arith) (omega arith) tt)

each_ascends : (most : ℕ) (cs : List (List Literal)) → all_have (λ c. T (ascending most 0 c)) cs → T (all_ascend most cs)
unfolding all_have all_ascend
each_ascends most [] f = tt
each_ascends most (c ∷ cs) f = and_in (ascending most 0 c) (all_ascend most cs) f.0 (each_ascends most cs f.1)

-- ---- a prefix that counts

counting-run : (u : Bool) (v w k : ℕ) (qs : List Quantified) → v + k ≡ w → T (counting w qs) → T (counting v (run u v k ++ qs))
unfolding counting run
counting-run u v w zero qs e t = let z : v ≡ w = omega arith in rw z t
counting-run u v w (suc k) qs e t =
    and_in (eqb v v) (counting (suc v) (run u (suc v) k ++ qs)) (eqb_refl v) (counting-run u (suc v) w k qs (omega arith) t)

counting_closing : (b : Bool) (v : ℕ) → T (counting v (only_if b (record { universal = false; boolean = v } ∷ [])))
unfolding counting only_if
counting_closing true v = and_in (eqb v v) true (eqb_refl v) tt
counting_closing false v = tt

-- ---- of a problem

module _ (P : Problem) where
  open P use {n, universal}

  prefix_counts : (k i : ℕ) → k + i ≡ n → T (counting (suc (base P i)) (prefix_from P k i))
  unfolding prefix_from fresh
  prefix_counts zero i e = let z : i ≡ n = omega arith in rw z (counting_closing (closes P) (suc (base P n)))
  prefix_counts (suc k) i e =
      counting-run (universal i) (suc (base P i)) (suc (base P (suc i))) (width P i) (prefix_from P k (suc i)) (omega (arith, base_suc P i))
      (prefix_counts k (suc i) (omega arith))

  prefix_ascends : T (counting 1 (formula_of P).prefix)
  unfolding formula_of base
  prefix_ascends = prefix_counts n 0 (omega arith)

  denial_ascends : (i c : ℕ) → c < ways P i → T (ascending (base P (suc i)) (base P i) (denial P i c))
  unfolding denial boolean_of ascending
  denial_ascends i c h = rw (base_suc P i) (go (universal i) refl)
    where
      go : (b : Bool) → universal i ≡ b
          → T (ascending (base P i + width P i) (base P i) (cond b (joined (λ t. record { positive = not (bit c t); boolean = suc (base P i + t) } ∷ []) (width P i)) (record { positive = false; boolean = suc (base P i + c) } ∷ [])))
      go true e = ascending-each (λ t. record { positive = not (bit c t); boolean = suc (base P i + t) }) (base P i) (width P i) (λ t. refl)
      go false e =
          let x = ways_existential P i e in let y = width_existential P i e in
          ascending-one (base P i + width P i) (base P i) (record { positive = false; boolean = suc (base P i + c) }) [] (omega arith) (omega arith) tt

  forms_ascend : (most : ℕ) → base P n ≤ most → (T (closes P) → base P n < most) → Forms (λ c. T (ascending most 0 c)) P
  unfolding at_least_one boolean_of fresh ascending
  forms_ascend most all more = record {
    some = λ i h e.
        let w = width_existential P i e in let b = base-before P (suc i) n h in let s = base_suc P i in
        ascending_wider (base P i + size P i) most (base P i) 0 (at_least_one P i) (omega arith) (omega arith)
        (ascending-each (λ t. record { positive = true; boolean = suc (base P i + t) }) (base P i) (size P i) (λ t. refl));
    apart = λ i j o hj k a b la lb x c e lc sc le se.
        let p = base-before P (suc i) j o in let q = base-before P (suc j) n hj in let s = base_suc P i in let r = base_suc P j in
        ascending-both most 0 (base P (suc i)) (denial P i c) (denial P j e) (omega arith) (omega arith)
        (ascending_wider (base P (suc i)) (base P (suc i)) (base P i) 0 (denial P i c) (omega arith) (omega arith) (denial_ascends i c lc))
        (ascending_wider (base P (suc j)) most (base P j) (base P (suc i)) (denial P j e) (omega arith) p (denial_ascends j e le));
    closing = λ c. let m = more c in ascending-one most 0 (record { positive = true; boolean = suc (base P n) }) [] (omega arith) (omega arith) tt;
  }

  -- "booleans ascend in order of play, then option or bit", "literals ascend by their boolean's number".
  pub formula_ordered : Ordered (formula_of P)
  formula_ordered = record {
    prefix = prefix_ascends;
    clauses = each_ascends (length (formula_of P).prefix) (formula_of P).clauses
        (all_forms (λ c. T (ascending (length (formula_of P).prefix) 0 c)) P
        (forms_ascend (length (formula_of P).prefix) (let e = booleans_all P in omega arith) (λ t. more (closes P) t (booleans_all P))));
  }
    where
      more : (b : Bool) → T b → length (formula_of P).prefix ≡ base P n + cond b 1 0 → base P n < length (formula_of P).prefix
      more true t e = omega arith
      more false t e = absurd t
