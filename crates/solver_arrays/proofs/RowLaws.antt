-- Rows of whole masks: the row of the lowest member, and those of the rest.
use mathlib.Core.Path.{◌≡◌, refl, sym, ap, ap₂, subst, ◌∙◌, fun_ext}
use mathlib.Core.Bool.{true}
use Prim.Native.Nat.{ℕ, ◌<◌}
use native.Mathlib.Omega.{arith}
use lib.Bits.{bit_and, bit_or, or_zero_r, and_comm, and_mask}
use Rattle.mask.specs.Range.{some, each, first}
use Rattle.mask.specs.Mask.{bit, mask_of, rest}
use Rattle.mask.proofs.Logic.{clash, holds, fails}
use Rattle.mask.proofs.Range.{some_out, each_in}
use Rattle.mask.proofs.Bits.{bit_of_zero, bit_none}
use Rattle.mask.proofs.Masks.{mask_of_or, mask_of_and, mask_of_same, mask_of_bits, mask_of_lt, bit-mask_of, and_assoc, or_assoc}
use Rattle.mask.proofs.Members.{some-rest, each-rest}
use Rattle.solver_arrays.specs.Arrays.{row_in, supported_in, common_in}
use Rattle.solver_arrays.specs.declared.arrays.Arrays.{Arrays}

-- Every bit set, met with a mask of 16 bits.
pub and_full : (m : ℕ) → m < 65536 → bit_and 65535 m ≡ m
and_full m h = and_comm 65535 m ∙ and_mask m 16 ∙ omega arith

pub full : mask_of 16 (λ b. true) ≡ 65535
unfolding mask_of
full = refl

-- Both are masks of 16 bits.
pub supported_lt : (A : Arrays) (i j m : ℕ) → supported_in A i m j < 65536
unfolding supported_in
supported_lt A i j m = mask_of_lt 16 _

pub common_lt : (A : Arrays) (i j m : ℕ) → common_in A i m j < 65536
unfolding common_in
common_lt A i j m = mask_of_lt 16 _

module _ (A : Arrays) (i j : ℕ) where
  -- No member: nothing is supported, and everything is common.
  supported_none : supported_in A i 0 j ≡ 0
  unfolding supported_in
  supported_none =
      bit_none 16 _ (mask_of_lt 16 _) λ b l.
      bit-mask_of 16 _ b l ∙ fails λ t. let r = some_out 16 (bit 0) (λ a. bit (row_in A i a j) b) t in clash (bit_of_zero r.0) r.2

  common_none : common_in A i 0 j ≡ 65535
  unfolding common_in
  common_none =
      mask_of_same 16 (λ b. each 16 (bit 0) (λ a. bit (row_in A i a j) b)) (λ b. true)
      (λ b l. holds (each_in 16 (bit 0) (λ a. bit (row_in A i a j) b) λ a h t. absurd (clash (bit_of_zero a) t)))
      ∙ full

  module _ (m : ℕ) (h : m < 65536) (z : ¬ (m ≡ 0)) (small : row_in A i (first 16 (bit m)) j < 65536) where
    row_mask : row_in A i (first 16 (bit m)) j ≡ mask_of 16 (bit (row_in A i (first 16 (bit m)) j))
    row_mask = mask_of_bits 16 _ small

    supported_rest : supported_in A i m j ≡ bit_or (row_in A i (first 16 (bit m)) j) (supported_in A i (rest m) j)
    unfolding supported_in
    supported_rest =
        ap (mask_of 16) (fun_ext λ b. some-rest 16 m h z (λ a. bit (row_in A i a j) b))
        ∙ sym (mask_of_or 16 (bit (row_in A i (first 16 (bit m)) j)) (λ b. some 16 (bit (rest m)) (λ a. bit (row_in A i a j) b)))
        ∙ ap (λ x. bit_or x (mask_of 16 (λ b. some 16 (bit (rest m)) (λ a. bit (row_in A i a j) b)))) (sym row_mask)

    common_rest : common_in A i m j ≡ bit_and (row_in A i (first 16 (bit m)) j) (common_in A i (rest m) j)
    unfolding common_in
    common_rest =
        ap (mask_of 16) (fun_ext λ b. each-rest 16 m h z (λ a. bit (row_in A i a j) b))
        ∙ sym (mask_of_and 16 (bit (row_in A i (first 16 (bit m)) j)) (λ b. each 16 (bit (rest m)) (λ a. bit (row_in A i a j) b)))
        ∙ ap (λ x. bit_and x (mask_of 16 (λ b. each 16 (bit (rest m)) (λ a. bit (row_in A i a j) b)))) (sym row_mask)

  -- One member more of a mask joined, and met, into what is gathered so far.
  module _ (m : ℕ) (h : m < 65536) (z : ¬ (m ≡ 0)) (whole out a r m' : ℕ) (k : out < 65536) (l : r < 65536) (p : a ≡ first 16 (bit m)) (q : r ≡ row_in A i a j) (e : m' ≡ rest m) where
    here : r ≡ row_in A i (first 16 (bit m)) j
    here = q ∙ ap (λ a. row_in A i a j) p

    pub supported_step : whole ≡ bit_or out (supported_in A i m j) → whole ≡ bit_or (bit_or out r) (supported_in A i m' j)
    supported_step w =
        w ∙ ap (bit_or out) (supported_rest m h z (subst (λ x. x < 65536) here l))
        ∙ ap₂ (λ x y. bit_or out (bit_or x (supported_in A i y j))) (sym here) (sym e)
        ∙ sym (or_assoc 16 out r (supported_in A i m' j) k l (supported_lt A i j m'))

    pub common_step : whole ≡ bit_and out (common_in A i m j) → whole ≡ bit_and (bit_and out r) (common_in A i m' j)
    common_step w =
        w ∙ ap (bit_and out) (common_rest m h z (subst (λ x. x < 65536) here l))
        ∙ ap₂ (λ x y. bit_and out (bit_and x (common_in A i y j))) (sym here) (sym e)
        ∙ sym (and_assoc 16 out r (common_in A i m' j) k)

  -- All members gathered.
  module _ (whole out m : ℕ) (z : m ≡ 0) (k : out < 65536) where
    pub supported_end : whole ≡ bit_or out (supported_in A i m j) → out ≡ whole
    supported_end w = sym (w ∙ ap (λ x. bit_or out (supported_in A i x j)) z ∙ ap (bit_or out) supported_none ∙ or_zero_r out)

    pub common_end : whole ≡ bit_and out (common_in A i m j) → out ≡ whole
    common_end w = sym (w ∙ ap (λ x. bit_and out (common_in A i x j)) z ∙ ap (bit_and out) common_none ∙ and_comm out 65535 ∙ and_full out k)
