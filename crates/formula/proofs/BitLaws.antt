-- How many bits d values need: at least one, at most four, enough and no more than needed. How many booleans and ways they get by side.
use mathlib.Core.Path.{◌≡◌, ap}
use Prim.Native.Nat.{ℕ, zero, suc, ◌+◌, ◌*◌, ◌≤◌, ◌<◌, ◌^◌}
use mathlib.Core.Bool.{Bool, true, false}
use native.Mathlib.Numerals.{unary_clauses}
use native.Mathlib.Omega.{arith}
use lib.Dec.{leb, leb→le, le→leb}
use lib.Pow.{pow_mono}
use borrow.Author.Tests.{lt-leb}
use Rattle.mask.specs.Range.{first}
use Rattle.mask.proofs.Logic.{clash, by_lt}
use Rattle.mask.proofs.Range.{first_below, first_least, first_of, first_is}
use Rattle.formula.specs.Encoding.{bits_for, width_for, ways_for}

-- Four bits are 16 codes.
pub power : (k : ℕ) → k ≤ 4 → 2 ^ k ≤ 16
power k h = pow_mono {i = k} {j = 4} h

pub bits_some : (d : ℕ) → 0 < bits_for d
unfolding bits_for
bits_some d = omega arith

pub bits_most : (d : ℕ) → d ≤ 16 → bits_for d ≤ 4
unfolding bits_for
bits_most d h = first_below 4 (λ k. leb d (2 ^ suc k)) 3 (omega arith) (le→leb d 16 h)

-- The codes are at least as many as the values.
pub enough : (d : ℕ) → d ≤ 16 → d ≤ 2 ^ bits_for d
unfolding bits_for
enough d h =
    leb→le d (2 ^ suc (first 4 (λ k. leb d (2 ^ suc k))))
    (first_of 4 (λ k. leb d (2 ^ suc k)) (bits_most d h))

-- Less than twice the values, or two codes of one value.
pub bits_twice : (d : ℕ) → 0 < d → 2 ^ bits_for d ≤ 2 * d
unfolding bits_for
bits_twice d h = go (first 4 (λ k. leb d (2 ^ suc k))) (first_least 4 (λ k. leb d (2 ^ suc k)))
  where
    go : (f : ℕ) → ((k : ℕ) → k < f → leb d (2 ^ suc k) ≡ false) → 2 ^ suc f ≤ 2 * d
    go zero least = omega arith
    go (suc k) least =
        by_lt (2 ^ suc k) d (λ l. let e : 2 ^ suc (suc k) ≡ 2 ^ suc k * 2 = simp unary_clauses in rw e (omega arith))
        λ l. absurd (clash (least k (omega arith)) (le→leb d (2 ^ suc k) l))

-- One bit for up to two values; k + 2 where k + 1 are too few.
pub bits_one : (d : ℕ) → d ≤ 2 → bits_for d ≡ 1
unfolding bits_for
bits_one d h = ap suc (first_is 4 (λ k. leb d (2 ^ suc k)) 0 (omega arith) (le→leb d 2 h) (λ j l. absurd (omega arith)))

pub bits_more : (d k : ℕ) → k < 3 → 2 ^ suc k < d → d ≤ 2 ^ suc (suc k) → bits_for d ≡ suc (suc k)
unfolding bits_for
bits_more d k h g l =
    ap suc (first_is 4 (λ k. leb d (2 ^ suc k)) (suc k) (omega arith) (le→leb d (2 ^ suc (suc k)) l)
    (λ j i. lt-leb d (2 ^ suc j) (let p = pow_mono {i = suc j} {j = suc k} (omega arith) in omega arith)))

-- Of either side: at least one boolean, at most 16.
pub width_for_some : (b : Bool) (d : ℕ) → 0 < d → 0 < width_for b d
unfolding width_for
width_for_some true d h = bits_some d
width_for_some false d h = h

pub width_for_most : (b : Bool) (d : ℕ) → d ≤ 16 → width_for b d ≤ 16
unfolding width_for
width_for_most true d h = omega (arith, bits_most d h)
width_for_most false d h = h

-- At least as many ways as values, at most twice as many and 16.
pub ways_for_enough : (b : Bool) (d : ℕ) → d ≤ 16 → d ≤ ways_for b d
unfolding ways_for
ways_for_enough true d h = enough d h
ways_for_enough false d h = omega arith

pub ways_for_twice : (b : Bool) (d : ℕ) → 0 < d → ways_for b d ≤ 2 * d
unfolding ways_for
ways_for_twice true d h = bits_twice d h
ways_for_twice false d h = omega arith

pub ways_for_most : (b : Bool) (d : ℕ) → d ≤ 16 → ways_for b d ≤ 16
unfolding ways_for
ways_for_most true d h = power (bits_for d) (bits_most d h)
ways_for_most false d h = h

-- A sum of numbers of which none is above w.
pub sum_most : (w : ℕ) (sum g : ℕ → ℕ) → sum 0 ≡ 0 → ((i : ℕ) → sum (suc i) ≡ sum i + g i) → ((i : ℕ) → g i ≤ w) → (i : ℕ) → sum i ≤ w * i
sum_most w sum g z e h zero = omega (arith, z)
sum_most w sum g z e h (suc i) =
    let r = sum_most w sum g z e h i in
    let m : w * suc i ≡ w * i + w = simp unary_clauses in rw m (omega (arith, e i, h i))
