-- Pairs, and the values that are left of i, a neighbour at a time.
use mathlib.Core.Path.{◌≡◌, refl, sym, ap, ap₂, subst, ◌∙◌, fun_ext}
use mathlib.Core.Bool.{Bool, true, false, cond}
use mathlib.Core.List.{List}
use Prim.Native.Nat.{ℕ, ◌+◌, ◌%◌, ◌^◌, ◌<◌}
use native.Mathlib.Nat.{mod-eq_of_lt}
use lib.Bits.{bit_and, and_mask}
use lib.Dec.{T, eqb→eq}
use lib.ListN.{get_or}
use borrow.Author.Tests.{eq-eqb, ne_eqb}
use Rattle.mask.specs.Range.{each, first}
use Rattle.mask.specs.Mask.{bit, mask_of, rest, above}
use Rattle.mask.proofs.Logic.{same, holds, clash, test, by_eq, and_in, and_out}
use Rattle.mask.proofs.Range.{each_in, each_out}
use Rattle.mask.proofs.Bits.{bit-bit_and, bit_of_zero, bit_single}
use Rattle.mask.proofs.Masks.{bit-mask_of, mask_of_and, mask_of_same, mask_of_bits, mask_of_lt, and_assoc}
use Rattle.mask.proofs.Members.{each-rest}
use Rattle.solver_arrays.specs.Arrays.{row_in, common_in}
use Rattle.solver_arrays.proofs.RowLaws.{full, common_lt}
use Rattle.rule_skip.specs.Skip.{box_in, box_goes, goes_above, tested_above, LeafKeeps, left_by, left_of}
use Rattle.solver_arrays.specs.declared.arrays.Arrays.{Arrays}

-- What a variable may have: i nothing, a later universal variable its mask, any other the leaf's value.
module _ (later i : ℕ) (w : List ℕ) (j : ℕ) where
  pub box_none : j ≡ i → 0 ≡ box_in later i w j
  unfolding box_in
  box_none e = rw (eq-eqb j i e)

  pub box_later : ¬ (j ≡ i) → bit later j ≡ true → get_or w j 0 ≡ box_in later i w j
  unfolding box_in
  box_later d e = rw (ne_eqb j i d, e)

  pub box-leaf : ¬ (j ≡ i) → bit later j ≡ false → 2 ^ (get_or w (96 + j) 0 % 16) ≡ box_in later i w j
  unfolding box_in
  box-leaf d e = rw (ne_eqb j i d, e)

module _ (A : Arrays) (later i : ℕ) (w : List ℕ) (j : ℕ) (keeps : LeafKeeps A w j) where
  -- A variable that is no later universal one has the leaf's value, if any.
  box_single : (k c : ℕ) → bit later k ≡ false → T (bit (box_in later i w k) c) → c ≡ get_or w (96 + k) 0 % 16
  box_single k c e t = by_eq k i
      (λ q. absurd (clash (ap (λ m. bit m c) (sym (box_none later i w k q)) ∙ bit_of_zero c) t))
      (λ d. eqb→eq c (get_or w (96 + k) 0 % 16) (subst T (ap (λ m. bit m c) (sym (box-leaf later i w k d e)) ∙ bit_single (get_or w (96 + k) 0 % 16) c) t))

  -- So two of them go together, as the leaf's values do.
  pair_goes : bit later j ≡ false → (k : ℕ) → bit later k ≡ false → T (bit (above (get_or A.near j 0) j) k) → T (box_goes A later i w j (box_in later i w j) k)
  unfolding box_goes common_in
  pair_goes e k f t =
      each_in 16 (bit (box_in later i w k)) (bit (common_in A j (box_in later i w j) k)) λ c l s.
      subst T (sym (bit-mask_of 16 (λ c. each 16 (bit (box_in later i w j)) (λ a. bit (row_in A j a k) c)) c l))
      (each_in 16 (bit (box_in later i w j)) (λ a. bit (row_in A j a k) c) λ a h m.
      subst (λ x. T (bit (row_in A j x k) c)) (sym (box_single j a e m))
      (subst (λ x. T (bit (row_in A j (get_or w (96 + j) 0 % 16) k) x)) (sym (box_single k c f s)) (keeps k t)))

  tested_enough : goes_above A later i w j ≡ each 32 (bit (tested_above A later j)) (box_goes A later i w j (box_in later i w j))
  unfolding goes_above tested_above
  tested_enough = go (bit later j) refl
    where
      m : ℕ
      m = above (get_or A.near j 0) j

      g : ℕ → Bool
      g = box_goes A later i w j (box_in later i w j)

      go : (b : Bool) → bit later j ≡ b → each 32 (bit m) g ≡ each 32 (bit (cond b m (bit_and m later))) g
      go true e = refl
      go false e = same (each 32 (bit m) g) (each 32 (bit (bit_and m later)) g)
          (λ t. each_in 32 (bit (bit_and m later)) g λ k l s. each_out 32 (bit m) g t k l (and_out (bit m k) (bit later k) (subst T (bit-bit_and m later k) s)).0)
          (λ t. each_in 32 (bit m) g λ k l s.
          test (bit later k) (λ r. each_out 32 (bit (bit_and m later)) g t k l (subst T (sym (bit-bit_and m later k)) (and_in (bit m k) (bit later k) s r))) (λ f. pair_goes e k f s))

  -- The tested neighbours above j are to be asked.
  pub goes-start : (m v : ℕ) → m ≡ box_in later i w j → v ≡ tested_above A later j → goes_above A later i w j ≡ each 32 (bit v) (box_goes A later i w j m)
  goes-start m v e q = tested_enough ∙ ap₂ (λ y x. each 32 (bit y) (box_goes A later i w j x)) (sym q) (sym e)

module _ (A : Arrays) (later i : ℕ) (w : List ℕ) where
  pub left_lt : (m : ℕ) → left_of A later i w m < 65536
  unfolding left_of
  left_lt m = mask_of_lt 16 _

  left_by_lt : (j : ℕ) → left_by A later i w j < 65536
  unfolding left_by
  left_by_lt j = common_lt A j i (box_in later i w j)

  -- No neighbour leaves every value; the lowest neighbour, and the rest.
  left_none : left_of A later i w 0 ≡ 65535
  unfolding left_of
  left_none =
      mask_of_same 16 (λ b. each 32 (bit 0) (λ j. bit (left_by A later i w j) b)) (λ b. true)
      (λ b l. holds (each_in 32 (bit 0) (λ j. bit (left_by A later i w j) b) λ j h t. absurd (clash (bit_of_zero j) t)))
      ∙ full

  left-rest :
      (m : ℕ) → m < 2 ^ 32 → ¬ (m ≡ 0)
      → left_of A later i w m ≡ bit_and (left_by A later i w (first 32 (bit m))) (left_of A later i w (rest m))
  unfolding left_of
  left-rest m h z =
      let f : ℕ → ℕ → Bool = λ b j. bit (left_by A later i w j) b in
      let j = first 32 (bit m) in
      ap (mask_of 16) (fun_ext λ b. each-rest 32 m h z (f b))
      ∙ sym (mask_of_and 16 (λ b. f b j) (λ b. each 32 (bit (rest m)) (f b)))
      ∙ ap (λ y. bit_and y (mask_of 16 (λ b. each 32 (bit (rest m)) (f b)))) (sym (mask_of_bits 16 _ (left_by_lt j)))

  -- One neighbour more, and no neighbour left.
  pub left-next :
      (out m all j r m' : ℕ) → out < 65536 → m < 2 ^ 32 → ¬ (m ≡ 0) → j ≡ first 32 (bit m) → r ≡ left_by A later i w j → m' ≡ rest m
      → all ≡ bit_and out (left_of A later i w m) → all ≡ bit_and (bit_and out r) (left_of A later i w m')
  left-next out m all j r m' o h z p q e a =
      a ∙ ap (bit_and out) (left-rest m h z) ∙ sym (and_assoc 16 out _ _ o)
      ∙ ap₂ (λ x y. bit_and (bit_and out x) (left_of A later i w y)) (sym (q ∙ ap (left_by A later i w) p)) (sym e)

  pub left_end : (out m all : ℕ) → out < 65536 → m ≡ 0 → all ≡ bit_and out (left_of A later i w m) → out ≡ all
  left_end out m all h z a = sym (a ∙ ap (λ y. bit_and out (left_of A later i w y)) z ∙ ap (bit_and out) left_none ∙ and_mask out 16 ∙ mod-eq_of_lt h)
