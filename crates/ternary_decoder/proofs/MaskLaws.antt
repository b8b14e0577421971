-- The masks of a hidden variable's rows and of its domain: one place, none, the places below a number.
use Prim.Native.Nat.{ℕ, ◌^◌, ◌≤◌, ◌<◌}
use mathlib.Core.Path.{◌≡◌, sym, ◌∙◌}
use mathlib.Core.Bool.{true}
use native.Mathlib.Omega.{arith}
use lib.Dec.{eqb, ltb}
use lib.Pow.{pow-lt}
use borrow.Author.Tests.{ne_eqb, lt-ltb, le-ltb}
use Rattle.mask.specs.Mask.{bit, mask_of}
use Rattle.mask.proofs.Logic.{by_lt}
use Rattle.mask.proofs.Bits.{bit_single, bit_of_zero, bit_high, bit_ext}
use Rattle.mask.proofs.Masks.{mask_of_lt, bit-mask_of, mask_of_same}
use Rattle.solver_arrays.proofs.RowLaws.{full}

pub one_place : (a : ℕ) → a < 16 → 2 ^ a ≡ mask_of 16 (λ x. eqb x a)
one_place a h = bit_ext 16 (2 ^ a) (mask_of 16 (λ x. eqb x a)) (pow-lt h) (mask_of_lt 16 _) (λ k l. bit_single a k ∙ sym (bit-mask_of 16 (λ x. eqb x a) k l))

pub no_place : (a : ℕ) → 16 ≤ a → 0 ≡ mask_of 16 (λ x. eqb x a)
no_place a h =
    bit_ext 16 0 (mask_of 16 (λ x. eqb x a)) (omega arith) (mask_of_lt 16 _)
    (λ k l. bit_of_zero k ∙ sym (bit-mask_of 16 (λ x. eqb x a) k l ∙ ne_eqb k a (omega arith)))

-- A word whose members are the numbers below s.
module _ (s : ℕ) where
  pub places_below : (w : ℕ) → w < 4294967296 → ((k : ℕ) → bit w k ≡ ltb k s) → s < 16 → w ≡ mask_of 16 (λ x. ltb x s)
  places_below w h e l =
      let m = mask_of_lt 16 (λ x. ltb x s) in
      bit_ext 32 w (mask_of 16 (λ x. ltb x s)) h (omega arith) λ k _.
      e k
      ∙ by_lt k 16
      (λ g. sym (bit-mask_of 16 (λ x. ltb x s) k g))
      (λ g. le-ltb k s (omega arith) ∙ sym (bit_high 16 (mask_of 16 (λ x. ltb x s)) k m g))

  pub all_places : 16 ≤ s → 65535 ≡ mask_of 16 (λ x. ltb x s)
  all_places h = sym full ∙ mask_of_same 16 (λ x. true) (λ x. ltb x s) (λ k l. sym (lt-ltb k s (omega arith)))
