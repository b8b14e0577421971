-- How many booleans a problem's formula has.
use mathlib.Core.Path.{◌≡◌, refl}
use mathlib.Core.Bool.{Bool, true, false, cond}
use mathlib.Core.List.{List, ◌++◌}
use Prim.Native.Nat.{ℕ, zero, suc, ◌+◌, ◌-◌, ◌≤◌, ◌<◌}
use native.Mathlib.Omega.{arith}
use lib.ListN.{length}
use Rattle.game.specs.Problem.{Problem}
use Rattle.formula.specs.Formula.{Quantified}
use Rattle.formula.specs.Encoding.{run, width, base, closes, fresh, prefix_from, formula_of}
use Rattle.formula_theory.proofs.JoinedLaws.{only_one}
use Rattle.formula_theory.proofs.Widths.{width_some, width_few, base_suc, base-before, base_most, base_all}

length_run : (u : Bool) (v k : ℕ) (qs : List Quantified) → length (run u v k ++ qs) ≡ k + length qs
unfolding run
length_run u v zero qs = omega arith
length_run u v (suc k) qs = let r = length_run u (suc v) k qs in omega arith

module _ (P : Problem) where
  open P use {n, universal}

  prefix_length : (k i : ℕ) → k + i ≡ n → length (prefix_from P k i) + base P i ≡ base P n + cond (closes P) 1 0
  unfolding prefix_from
  prefix_length zero i e =
      let z : i ≡ n = omega arith in
      rw z (omega (arith, only_one {A = Quantified} (closes P) (record { universal = false; boolean = fresh P })))
  prefix_length (suc k) i e =
      let r = prefix_length k (suc i) (omega arith) in
      omega (arith, r, length_run (universal i) (suc (base P i)) (width P i) (prefix_from P k (suc i)), base_suc P i)

  -- Those of all variables, and the closing one.
  pub booleans_all : length (formula_of P).prefix ≡ base P n + cond (closes P) 1 0
  unfolding formula_of base
  booleans_all = let e = prefix_length n 0 (omega arith) in omega arith

  -- Some.
  pub base-some : 0 < n → 0 < base P n
  unfolding base
  base-some h = let a = base-before P 1 n h in let w = width_some P 0 h in let e : base P 1 ≡ base P 0 + width P 0 = base_suc P 0 in omega arith

  -- At most 512: a last variable that is universal has no more than four.
  pub booleans_most : 0 < n → n ≤ 32 → length (formula_of P).prefix ≤ 512
  unfolding closes
  booleans_most some many = go (universal (n - 1)) refl booleans_all
    where
      last : base P n ≡ base P (n - 1) + width P (n - 1)
      last = let e : suc (n - 1) ≡ n = omega arith in rw e at (base_suc P (n - 1))

      go : (b : Bool) → universal (n - 1) ≡ b → length (formula_of P).prefix ≡ base P n + cond b 1 0 → length (formula_of P).prefix ≤ 512
      go true e l = let f = width_few P (n - 1) e in let m = base_most P (n - 1) in let z = last in omega arith
      go false e l = let m = base_all P many in omega arith
