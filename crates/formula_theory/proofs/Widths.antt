-- How many values, booleans and ways a variable has, and how many booleans come before it.
use mathlib.Core.Path.{◌≡◌, refl}
use mathlib.Core.Bool.{true, false}
use Prim.Native.Nat.{ℕ, zero, suc, ◌+◌, ◌-◌, ◌*◌, ◌≤◌, ◌<◌, ◌^◌}
use native.Mathlib.Omega.{arith}
use lib.ListN.{get_or}
use Rattle.mask.specs.Range.{count}
use Rattle.mask.specs.Mask.{bit}
use Rattle.mask.proofs.Logic.{fails, by_lt}
use Rattle.mask.proofs.Range.{count-bound}
use Rattle.mask.proofs.Places.{place-below}
use Rattle.mask.proofs.Bits.{bit_none}
use Rattle.game.specs.Problem.{Problem}
use Rattle.game.specs.Lists.{domains}
use Rattle.formula.specs.Encoding.{bits_for, width_for, ways_for, size, width, base, ways}
use Rattle.formula.proofs.BitLaws.{bits_most, width_for_some, width_for_most, ways_for_enough, ways_for_twice, ways_for_most, sum_most}

module _ (P : Problem) where
  open P use {n, domain, bounded, nonempty, universal}

  -- Every variable has a value, and no more than 16.
  pub size-some : (i : ℕ) → i < n → 0 < size P i
  unfolding size domains
  size-some i h = by_lt 0 (count 16 (bit (get_or domain i 0))) (λ l. l) λ l.
      absurd (nonempty i h (bit_none 16 (get_or domain i 0) (bounded i) λ k g. fails λ t. let z = place-below 16 (bit (get_or domain i 0)) k g t in omega arith))

  pub size_most : (i : ℕ) → size P i ≤ 16
  unfolding size
  size_most i = count-bound 16 (domains domain i)

  -- Booleans and ways, by side.
  pub width-universal : (i : ℕ) → universal i ≡ true → width P i ≡ bits_for (size P i)
  unfolding width width_for
  width-universal i e = rw e

  pub width_existential : (i : ℕ) → universal i ≡ false → width P i ≡ size P i
  unfolding width width_for
  width_existential i e = rw e

  pub ways-universal : (i : ℕ) → universal i ≡ true → ways P i ≡ 2 ^ width P i
  unfolding ways ways_for width width_for
  ways-universal i e = rw e

  pub ways_existential : (i : ℕ) → universal i ≡ false → ways P i ≡ size P i
  unfolding ways ways_for
  ways_existential i e = rw e

  -- At least one boolean; no more than 4 of a universal variable, no more than 16 of any.
  pub width_some : (i : ℕ) → i < n → 0 < width P i
  unfolding width
  width_some i h = width_for_some (universal i) (size P i) (size-some i h)

  pub width_few : (i : ℕ) → universal i ≡ true → width P i ≤ 4
  width_few i e = rw (width-universal i e) (bits_most (size P i) (size_most i))

  pub width_most : (i : ℕ) → width P i ≤ 16
  unfolding width
  width_most i = width_for_most (universal i) (size P i) (size_most i)

  -- At least as many ways as values, and no more than 16.
  pub size-ways : (i : ℕ) → size P i ≤ ways P i
  unfolding ways
  size-ways i = ways_for_enough (universal i) (size P i) (size_most i)

  pub ways_most : (i : ℕ) → ways P i ≤ 16
  unfolding ways
  ways_most i = ways_for_most (universal i) (size P i) (size_most i)

  -- No more than two ways for each value.
  pub ways-twice : (i : ℕ) → i < n → (size P i ≤ ways P i) × (ways P i ≤ 2 * size P i)
  unfolding ways
  ways-twice i h = (size-ways i, ways_for_twice (universal i) (size P i) (size-some i h))

  -- ---- booleans before a variable

  pub base_suc : (i : ℕ) → base P (suc i) ≡ base P i + width P i
  unfolding base
  base_suc i = refl

  pub base_up : (k i : ℕ) → base P i ≤ base P (k + i)
  base_up zero i = let e : 0 + i ≡ i = omega arith in rw e (omega arith)
  base_up (suc k) i = let e : suc k + i ≡ suc (k + i) = omega arith in rw e (omega (arith, base_up k i, base_suc (k + i)))

  pub base-before : (i j : ℕ) → i ≤ j → base P i ≤ base P j
  base-before i j h = let e : (j - i) + i ≡ j = omega arith in rw e at (base_up (j - i) i)

  pub base_most : (i : ℕ) → base P i ≤ 16 * i
  unfolding base
  base_most = sum_most 16 (base P) (width P) refl base_suc width_most

  pub base_all : n ≤ 32 → base P n ≤ 512
  base_all h = let r = base_most n in omega arith
