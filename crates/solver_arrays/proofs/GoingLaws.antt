-- The values of a variable that go with values played.
use mathlib.Core.Path.{◌≡◌, refl, sym, ap, ap₂, ◌∙◌}
use mathlib.Core.Bool.{Bool, true, false, not, ◌&&◌, and-true}
use mathlib.Core.List.{List}
use Prim.Native.Nat.{ℕ, zero, suc, ◌<◌}
use native.Mathlib.Omega.{arith}
use lib.Bits.{and_le_l}
use lib.Dec.{T, eqb, eqb→eq, eqb_refl}
use Rattle.mask.specs.Range.{some, each}
use Rattle.mask.specs.Mask.{bit}
use Rattle.mask.proofs.Logic.{same, and_out, and_keep}
use Rattle.mask.proofs.Range.{each_in, each_out, some-over, some_joint}
use Rattle.mask.proofs.Bits.{bit-bit_and, bit_ext}
use Rattle.mask.proofs.Masks.{empty-some}
use Rattle.solver_arrays.specs.declared.arrays.Arrays.{Arrays}
use Rattle.solver_arrays.specs.Arrays.{row_in}
use Rattle.solver_arrays.specs.Going.{value_at, going_with}

and_swap : (a b c : Bool) → ((a && b) && c) ≡ (a && (c && b))
and_swap true true c = sym (and-true c)
and_swap true false true = refl
and_swap true false false = refl
and_swap false b c = refl

module _ (A : Arrays) (values : List ℕ) where
  pub going_lt : (k m j : ℕ) → m < 65536 → going_with A values k m j < 65536
  unfolding going_with
  going_lt zero m j h = h
  going_lt (suc k) m j h = omega (arith, and_le_l (going_with A values k m j) (row_in A k (value_at values k) j), going_lt k m j h)

  -- Where g says of each value played whether a goes with it.
  pub going_bit : (k m j a : ℕ) (g : ℕ → Bool) → ((i : ℕ) → i < k → bit (row_in A i (value_at values i) j) a ≡ g i)
      → bit (going_with A values k m j) a ≡ (bit m a && each k (λ i. true) g)
  unfolding going_with each
  going_bit zero m j a g h = sym (and-true (bit m a))
  going_bit (suc k) m j a g h =
      bit-bit_and (going_with A values k m j) (row_in A k (value_at values k) j) a
      ∙ ap₂ ◌&&◌ (going_bit k m j a g (λ i l. h i (omega arith))) (h k (omega arith))
      ∙ and_swap (bit m a) (each k (λ i. true) g) (g k)

  -- Where g says so of each value played and each value: whether none of m goes with all, and whether all of m do.
  module _ (k m j : ℕ) (g : ℕ → ℕ → Bool) (small : m < 65536) (h : (i a : ℕ) → i < k → a < 16 → bit (row_in A i (value_at values i) j) a ≡ g i a) where
    abbrev goes : ℕ → Bool
    goes a = each k (λ i. true) (λ i. g i a)

    bits : (a : ℕ) → a < 16 → bit (going_with A values k m j) a ≡ (bit m a && goes a)
    bits a l = going_bit k m j a (λ i. g i a) (λ i b. h i a b l)

    pub going_none : eqb (going_with A values k m j) 0 ≡ not (some 16 (bit m) goes)
    going_none =
        empty-some 16 (going_with A values k m j) (going_lt k m j small)
        ∙ ap not (some-over 16 (bit (going_with A values k m j)) (λ a. bit m a && goes a) (λ a. true) bits ∙ sym (some_joint 16 (bit m) goes))

    pub going_all : eqb (going_with A values k m j) m ≡ each 16 (bit m) goes
    going_all = same (eqb (going_with A values k m j) m) (each 16 (bit m) goes)
        (λ t. each_in 16 (bit m) goes λ a l b. let c : T (bit (going_with A values k m j) a) = rw (eqb→eq (going_with A values k m j) m t) b in (and_out (bit m a) (goes a) (rw (bits a l) at c)).1)
        (λ t. rw (bit_ext 16 (going_with A values k m j) m (going_lt k m j small) small (λ a l. bits a l ∙ and_keep (bit m a) (goes a) (each_out 16 (bit m) goes t a l))) (eqb_refl m))
