-- What is coded of a variable, part by part, and that it is small.
use mathlib.Core.Path.{◌≡◌, refl}
use mathlib.Core.Bool.{Bool, true, false}
use Prim.Native.Nat.{ℕ, ◌+◌, ◌*◌, ◌≤◌, ◌<◌, ◌^◌}
use native.Mathlib.Numerals.{add-one}
use native.Mathlib.Omega.{arith}
use lib.ListN.{get_or}
use Rattle.mask.specs.Range.{count}
use Rattle.mask.specs.Mask.{bit}
use Rattle.mask.proofs.Range.{count-bound}
use Rattle.formula.specs.Encoding.{bits_for, width_for, ways_for}
use Rattle.formula.proofs.BitLaws.{width_for_most, sum_most}
use Rattle.solver_arrays.specs.declared.arrays.Arrays.{Arrays}
use Rattle.formula_words.specs.declared.coded.Coded.{Coded}
use Rattle.formula_words.specs.Coding.{size_in, base_in, coded_in, Bounded}

-- A variable has no more than 16 values.
pub size_most : (A : Arrays) (i : ℕ) → size_in A i ≤ 16
unfolding size_in
size_most A i = count-bound 16 (bit (get_or A.domains i 0))

-- By side.
pub ways-universal : (b : Bool) (d w r : ℕ) → b ≡ true → w ≡ bits_for d → r ≡ 2 ^ w → r ≡ ways_for b d
unfolding ways_for
ways-universal b d w r t e f = rw (t, ← e) f

pub ways_existential : (b : Bool) (d : ℕ) → b ≡ false → d ≡ ways_for b d
unfolding ways_for
ways_existential b d t = rw t

-- The booleans before a variable: one variable more.
pub base_more :
    (A : Arrays) (k base : ℕ) (u : Bool) (size width : ℕ) → base ≡ base_in A k → u ≡ bit A.universal k → size ≡ count 16 (bit (get_or A.domains k 0))
    → width ≡ width_for u size → base + width ≡ base_in A (k + 1)
unfolding base_in size_in
base_more A k base u size width a b c d = rw (add-one, a, d, c, b)

-- The booleans before a variable are no more than 16 of each.
pub base_most : (A : Arrays) (i : ℕ) → base_in A i ≤ 16 * i
unfolding base_in
base_most A =
    sum_most 16 (base_in A) (λ i. width_for (bit A.universal i) (size_in A i)) refl (λ i. refl)
    (λ i. width_for_most (bit A.universal i) (size_in A i) (size_most A i))

-- All of a variable.
pub coded_by :
    (A : Arrays) (i : ℕ) (u : Bool) (base size width ways : ℕ) → u ≡ bit A.universal i → size ≡ count 16 (bit (get_or A.domains i 0)) → base ≡ base_in A i
    → width ≡ width_for u size → ways ≡ ways_for u size
    → record { universal = u; base = base; size = size; width = width; ways = ways; domain = get_or A.domains i 0 } ≡ coded_in A i
unfolding coded_in size_in
coded_by A i u base size width ways a b c d e = rw (e, d, c, b, a)

-- What is coded of any variable is small.
pub coded_bounded : (A : Arrays) (i : ℕ) → i ≤ 32 → Bounded (coded_in A i)
unfolding coded_in
coded_bounded A i h = record {
  base = let b = base_most A i in omega arith;
  size = size_most A i;
  width = width_for_most (bit A.universal i) (size_in A i) (size_most A i);
}

-- So is what the code has coded of one.
pub bounded_of : (A : Arrays) (i : ℕ) (x : Coded) → i < 32 → x ≡ coded_in A i → Bounded x
bounded_of A i x h e = rw e (coded_bounded A i (omega arith))
