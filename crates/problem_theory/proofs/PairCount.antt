-- How many pairs of n variables pass a test: pair i < j < n has the number 32 i + j, so those of one i lie in a block of 32 numbers.
use mathlib.Core.Path.{◌≡◌, refl}
use mathlib.Core.Bool.{Bool, true, ◌&&◌}
use Prim.Native.Nat.{ℕ, zero, suc, ◌+◌, ◌-◌, ◌*◌, ◌/◌, ◌%◌, ◌≤◌, ◌<◌}
use native.Mathlib.Omega.{arith}
use lib.Dec.{T, leb, ltb}
use borrow.Author.Tests.{leb-true, ltb-true, lt-ltb}
use Rattle.mask.specs.Range.{each, count}
use Rattle.mask.proofs.Logic.{holds, fails, and_out}
use Rattle.mask.proofs.Range.{each_out, count_same, count_cut, count_split}
use Rattle.mask.proofs.Places.{place-below, count-above}
use Rattle.file_layout.specs.Numbers.{in_order}
use Rattle.file_layout.proofs.NumberLaws.{order_out, constraints_most}

-- At most so many pairs have one of the first k variables in front.
abbrev pairs_to : ℕ → ℕ → ℕ
pairs_to n zero = 0
pairs_to n (suc i) = pairs_to n i + (n - suc i)

-- In all no more than n (n - 1) / 2, for up to 32 variables.
pairs_all : (n : ℕ) → n ≤ 32 → pairs_to n n ≤ n * (n - 1) / 2
unfolding each
pairs_all n h = leb-true _ _ (holds (each_out 33 (λ n. true) (λ n. leb (pairs_to n n) (n * (n - 1) / 2)) tt n (omega arith) tt))

module _ (n : ℕ) (p : ℕ → Bool) (most : n ≤ 32) (pairs : (x : ℕ) → T (p x) → T (in_order (x / 32) (x % 32) n)) where
  -- The pair (i, j), where it passes.
  passes : ℕ → ℕ → Bool
  passes i j = ltb j 32 && p (32 * i + j)

  passes_order : (i j : ℕ) → T (passes i j) → (i < j) × (j < n)
  unfolding passes
  passes_order i j t =
      let s = and_out (ltb j 32) (p (32 * i + j)) t in
      let l : j < 32 = ltb-true _ _ (holds s.0) in
      let o = order_out _ _ _ (holds (pairs (32 * i + j) s.1)) in
      let a : (32 * i + j) / 32 ≡ i = omega arith in
      let b : (32 * i + j) % 32 ≡ j = omega arith in
      (omega (arith, o.0), omega (arith, o.1))

  -- Those with i in front.
  block : (i : ℕ) → count 32 (λ j. p (32 * i + j)) ≤ n - suc i
  unfolding passes
  block i =
      let e : count 32 (λ j. p (32 * i + j)) ≡ count 32 (passes i) = count_same 32 (λ j. p (32 * i + j)) (passes i) (λ j l. rw (lt-ltb j 32 l) refl) in
      let c : count 32 (passes i) ≡ count n (passes i) = count_cut 32 n (passes i) (passes i) most (λ j l. refl) (λ j l. fails λ t. omega (arith, passes_order i j t)) in
      omega (arith, count-above n i (passes i) (λ j t. (passes_order i j t).0))

  blocks : (i : ℕ) → count (32 * i) p ≤ pairs_to n i
  unfolding count
  blocks zero = omega arith
  blocks (suc i) = let e : 32 * suc i ≡ 32 * i + 32 = omega arith in rw e (omega (arith, count_split (32 * i) 32 p, blocks i, block i))

  -- No more pass than there are pairs.
  pub pairs_most : count (32 * n) p ≤ n * (n - 1) / 2
  pairs_most = omega (arith, blocks n, pairs_all n most)

  -- Fewer than 496 stand below one that passes.
  pub pair_few : (x : ℕ) → x < 32 * n → T (p x) → count x p < 496
  pair_few x h t =
      let c = constraints_most n (n * (n - 1) / 2) (record { some = omega arith; most = most; pairs = omega arith }) in
      omega (arith, place-below (32 * n) p x h t, pairs_most)
