-- The formula of a problem of up to 32 variables is one that a text can hold, so its text read back is it.
use mathlib.Core.Path.{◌≡◌, refl}
use mathlib.Core.Bool.{Bool, true, false, cond, not}
use mathlib.Core.List.{List, [], ◌∷◌, ◌++◌}
use Prim.Native.Nat.{ℕ, zero, suc, ◌+◌, ◌-◌, ◌≤◌, ◌<◌}
use native.Mathlib.Omega.{arith}
use lib.ListN.{length, length-append}
use Rattle.mask.specs.Mask.{bit}
use Rattle.game.specs.Problem.{Problem}
use Rattle.buffer.specs.Stored.{joined}
use Rattle.buffer.proofs.StoredLaws.{one_each}
use Rattle.formula.specs.Formula.{Literal, Quantified, only_if}
use Rattle.formula.specs.Encoding.{run, size, width, base, boolean_of, ways, denial, at_least_one, existential_clauses, pair_clauses, closes, fresh, closing_clauses, prefix_from, formula_of}
use Rattle.formula.specs.Text.{read_text, text_of}
use Rattle.formula_theory.proofs.JoinedLaws.{joined_has}
use Rattle.formula_theory.proofs.Widths.{width_existential, width_some, ways_existential, base-before, base_suc, base_all}
use Rattle.formula_theory.proofs.Forms.{Forms, all_forms}
use Rattle.formula_theory.proofs.PrefixLaws.{booleans_all, booleans_most, base-some}
use Rattle.formula_theory.proofs.CountLaws.{clauses_most}
use Rattle.formula_theory.proofs.ReadBack.{bound, Numbered, fits, all_numbered, Plain, read_back}

-- ---- clauses that fit

fits_both : (xs ys : List Literal) → fits xs → fits ys → fits (xs ++ ys)
unfolding fits
fits_both [] ys f g = g
fits_both (l ∷ xs) ys f g = (f.0, fits_both xs ys f.1 g)

fits_each : (g : ℕ → Literal) (k : ℕ) → ((t : ℕ) → t < k → Numbered (g t).boolean) → fits (joined (λ t. g t ∷ []) k)
unfolding joined fits
fits_each g zero f = tt
fits_each g (suc k) f = fits_both (joined (λ t. g t ∷ []) k) (g k ∷ []) (fits_each g k (λ t h. f t (omega arith))) (f k (omega arith), tt)

fits_one : (l : Literal) → Numbered l.boolean → fits (l ∷ [])
unfolding fits
fits_one l h = (h, tt)

run-numbered : (u : Bool) (v k : ℕ) (qs : List Quantified) → 0 < v → v + k ≤ bound → all_numbered qs → all_numbered (run u v k ++ qs)
unfolding run all_numbered
run-numbered u v zero qs h l f = f
run-numbered u v (suc k) qs h l f = ((h, omega arith), run-numbered u (suc v) k qs (omega arith) (omega arith) f)

closed-numbered : (b : Bool) (v : ℕ) → Numbered v → all_numbered (only_if b (record { universal = false; boolean = v } ∷ []))
unfolding only_if all_numbered
closed-numbered true v h = (h, tt)
closed-numbered false v h = tt

module _ (P : Problem) (some : 0 < P.n) (many : P.n ≤ 32) where
  open P use {n, universal, constrained}

  numbered : (i t : ℕ) → i < n → t < width P i → Numbered (boolean_of P i t)
  unfolding boolean_of
  numbered i t h l = let b = base-before P (suc i) n h in let e = base_suc P i in let a = base_all P many in (omega arith, omega arith)

  fresh-numbered : Numbered (fresh P)
  unfolding fresh
  fresh-numbered = let a = base_all P many in (omega arith, omega arith)

  -- ---- the prefix

  prefix_numbered : (k i : ℕ) → k + i ≡ n → all_numbered (prefix_from P k i)
  unfolding prefix_from
  prefix_numbered zero i e = closed-numbered (closes P) (fresh P) fresh-numbered
  prefix_numbered (suc k) i e =
      run-numbered (universal i) (suc (base P i)) (width P i) (prefix_from P k (suc i)) (omega arith)
      (let b = base-before P (suc i) n (omega arith) in let q = base_suc P i in let a = base_all P many in omega arith) (prefix_numbered k (suc i) (omega arith))

  -- ---- the clauses

  denial-fits : (i c : ℕ) → i < n → c < ways P i → fits (denial P i c) × (length (denial P i c) ≤ width P i)
  unfolding denial
  denial-fits i c h l = go (universal i) refl
    where
      go : (b : Bool) → universal i ≡ b
          → fits (cond b (joined (λ t. record { positive = not (bit c t); boolean = boolean_of P i t } ∷ []) (width P i)) (record { positive = false; boolean = boolean_of P i c } ∷ []))
          × (length {A = Literal} (cond b (joined (λ t. record { positive = not (bit c t); boolean = boolean_of P i t } ∷ []) (width P i)) (record { positive = false; boolean = boolean_of P i c } ∷ [])) ≤ width P i)
      go true e =
          let g : ℕ → Literal = λ t. record { positive = not (bit c t); boolean = boolean_of P i t } in
          (fits_each g (width P i) (λ t m. numbered i t h m), let z = one_each g (width P i) in omega arith)
      go false e =
          let x = ways_existential P i e in let y = width_existential P i e in
          (fits_one (record { positive = false; boolean = boolean_of P i c }) (numbered i c h (omega arith)), let w = width_some P i h in omega arith)

  -- The booleans of two variables are not more than all.
  two_widths : (i j : ℕ) → i < j → j < n → width P i + width P j ≤ base P n
  two_widths i j h l = let a = base-before P (suc i) j h in let b = base-before P (suc j) n l in let x = base_suc P i in let y = base_suc P j in omega arith

  forms_fit : (most : ℕ) → base P n < most → Forms (λ c. (length c < most) × fits c) P
  unfolding at_least_one
  forms_fit most enough = record {
    some = λ i h e.
        let w = width_existential P i e in let g : ℕ → Literal = λ t. record { positive = true; boolean = boolean_of P i t } in
        let l = one_each g (size P i) in let b = base-before P (suc i) n h in let s = base_suc P i in
        (omega arith, fits_each g (size P i) (λ t m. numbered i t h (omega arith)));
    apart = λ i j o hj k a b la lb x c e lc sc le se.
        let u = denial-fits i c (omega arith) lc in let w = denial-fits j e hj le in let t = two_widths i j o hj in
        (omega (arith, length-append (denial P i c) (denial P j e), u.1, w.1), fits_both (denial P i c) (denial P j e) u.0 w.0);
    closing = λ c. let a = base-some P some in (omega arith, fits_one (record { positive = true; boolean = fresh P }) fresh-numbered);
  }

  -- There is a clause: of the last variable, or the closing one.
  some-clause : 0 < length ((existential_clauses P ++ pair_clauses P) ++ closing_clauses P)
  unfolding existential_clauses closing_clauses closes only_if
  some-clause =
      let a = length-append (existential_clauses P ++ pair_clauses P) (closing_clauses P) in
      let b = length-append (existential_clauses P) (pair_clauses P) in
      go (universal (n - 1)) refl a b
    where
      go : (u : Bool) → universal (n - 1) ≡ u → length ((existential_clauses P ++ pair_clauses P) ++ closing_clauses P) ≡ length (existential_clauses P ++ pair_clauses P) + length (closing_clauses P)
          → length (existential_clauses P ++ pair_clauses P) ≡ length (existential_clauses P) + length (pair_clauses P)
          → 0 < length ((existential_clauses P ++ pair_clauses P) ++ closing_clauses P)
      go true e a b = let z : length (closing_clauses P) ≡ 1 = rw e in omega arith
      go false e a b =
          let z = joined_has (λ i. only_if (not (universal i)) (at_least_one P i ∷ [])) n (n - 1) (omega arith) (rw e (omega arith)) in omega arith

  -- ---- the whole

  pub formula_plain : Plain (formula_of P)
  unfolding formula_of
  formula_plain =
      let e = booleans_all P in let l = booleans_most P some many in let s = base-some P some in let m = clauses_most P some many in
      record {
        prefix = prefix_numbered n 0 (omega arith);
        some = omega arith;
        count = omega arith;
        clauses = all_forms (λ c. (length c < suc (length (prefix_from P n 0))) × fits c) P (forms_fit (suc (length (prefix_from P n 0))) (omega arith));
        many = omega arith;
        first = some-clause;
      }

  -- "the emitted text read back is that formula", for every problem of 1 to 32 variables.
  pub formula_read_back : read_text (text_of (formula_of P)) ≡ formula_of P
  formula_read_back = read_back (formula_of P) formula_plain
