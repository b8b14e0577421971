-- Rule 4 over the arrays: a step of its loop, and its reply in a problem that the arrays state.
use mathlib.Core.Path.{◌≡◌, refl, sym, ap, ap₂, ◌∙◌, fun_ext}
use mathlib.Core.Bool.{Bool, true, ◌&&◌}
use mathlib.Core.List.{List}
use Prim.Native.Nat.{ℕ, ◌^◌, ◌<◌}
use native.Mathlib.Nat.{mod-eq_of_lt}
use lib.Bits.{bit_and, and_mask, and_zero_l}
use lib.ListN.{get_or}
use Rattle.mask.specs.Range.{each, first}
use Rattle.mask.specs.Mask.{bit, mask_of, rest}
use Rattle.mask.proofs.Logic.{holds, clash}
use Rattle.mask.proofs.Range.{each_in, each_eq}
use Rattle.mask.proofs.Bits.{bit_of_zero}
use Rattle.mask.proofs.Masks.{mask_of_and, mask_of_same, mask_of_bits, bit-mask_of, and_assoc}
use Rattle.mask.proofs.Members.{each-rest}
use Rattle.game.specs.Problem.{Problem}
use Rattle.game.specs.Lists.{domains}
use Rattle.game.specs.Pure.{is_pure, pure}
use Rattle.solver_arrays.specs.Arrays.{row_in, common_in, States}
use Rattle.solver_arrays.specs.Words.{list_in}
use Rattle.solver_arrays.proofs.RowLaws.{full, common_lt}
use Rattle.solver_arrays.proofs.Stated.{domain_of_lem, neighbours}
use Rattle.rule_narrow.specs.Narrow.{common_to_all}
use Rattle.solver_arrays.specs.declared.arrays.Arrays.{Arrays}

-- Value a of x goes with every value of j.
abbrev goes : Arrays → ℕ → List ℕ → ℕ → ℕ → Bool
goes A x w a j = bit (common_in A j (get_or w j 0) x) a

module _ (A : Arrays) (x : ℕ) (w : List ℕ) where
  -- No variable: every value goes.
  common_to_none : common_to_all A x w 0 ≡ 65535
  unfolding common_to_all
  common_to_none =
      mask_of_same 16 (λ a. each 32 (bit 0) (goes A x w a)) (λ a. true)
      (λ a l. holds (each_in 32 (bit 0) (goes A x w a) λ j h t. absurd (clash (bit_of_zero j) t)))
      ∙ full

  -- The lowest variable, and the rest.
  common_to_rest :
      (m : ℕ) → m < 2 ^ 32 → ¬ (m ≡ 0)
      → common_to_all A x w m ≡ bit_and (common_in A (first 32 (bit m)) (get_or w (first 32 (bit m)) 0) x) (common_to_all A x w (rest m))
  unfolding common_to_all
  common_to_rest m h z =
      let j = first 32 (bit m) in
      ap (mask_of 16) (fun_ext λ a. each-rest 32 m h z (goes A x w a))
      ∙ sym (mask_of_and 16 (λ a. goes A x w a j) (λ a. each 32 (bit (rest m)) (goes A x w a)))
      ∙ ap (λ y. bit_and y (mask_of 16 (λ a. each 32 (bit (rest m)) (goes A x w a))))
      (sym (mask_of_bits 16 _ (common_lt A j x (get_or w j 0))))

  -- One more neighbour has passed; nothing is left among its values; no more neighbours.
  pub common_next :
      (out m all j out' m' : ℕ) → out < 2 ^ 16 → m < 2 ^ 32 → ¬ (m ≡ 0) → j ≡ first 32 (bit m) → out' ≡ bit_and out (common_in A j (get_or w j 0) x) → m' ≡ rest m
      → all ≡ bit_and out (common_to_all A x w m) → all ≡ bit_and out' (common_to_all A x w m')
  common_next out m all j out' m' o h z f g q e =
      e ∙ ap (bit_and out) (common_to_rest m h z) ∙ sym (and_assoc 16 out _ _ o)
      ∙ ap₂ (λ y v. bit_and y (common_to_all A x w v)) (sym (g ∙ ap (λ i. bit_and out (common_in A i (get_or w i 0) x)) f)) (sym q)

  pub stop_within : (out m all v j : ℕ) → out < 2 ^ 16 → m < 2 ^ 32 → ¬ (m ≡ 0) → j ≡ first 32 (bit m)
      → (y : ℕ) → bit_and out (common_in A j (get_or w j 0) x) ≡ bit_and v y → v ≡ 0 → all ≡ bit_and out (common_to_all A x w m) → 0 ≡ all
  stop_within out m all v j o h z f y g q e =
      sym (common_next out m all j (bit_and out (common_in A j (get_or w j 0) x)) (rest m) o h z f refl refl e
      ∙ ap (λ t. bit_and t (common_to_all A x w (rest m))) (g ∙ ap (λ t. bit_and t y) q ∙ and_zero_l y) ∙ and_zero_l (common_to_all A x w (rest m)))

  pub none_left : (out m all : ℕ) → out < 2 ^ 16 → m ≡ 0 → all ≡ bit_and out (common_to_all A x w m) → out ≡ all
  none_left out m all h z e = sym (e ∙ ap (λ y. bit_and out (common_to_all A x w y)) z ∙ ap (bit_and out) common_to_none ∙ and_mask out 16 ∙ mod-eq_of_lt h)

module _ (P : Problem) (n : ℕ) (A : Arrays) (S : States P n A) (x : ℕ) (l : x < n) (w : List ℕ) (small : get_or w x 0 < 2 ^ 16) where
  -- A value goes with the whole domain of j.
  goes_with : (a j : ℕ) → a < 16 → j < n → each 16 (domains (list_in n w) j) (λ b. P.compatible x a j b) ≡ goes A x w a j
  unfolding common_in
  goes_with a j h k =
      ap (λ d. each 16 d (λ b. P.compatible x a j b)) (domain_of_lem n w j k)
      ∙ each_eq 16 (bit (get_or w j 0)) (λ b. P.compatible x a j b) (λ b. bit (row_in A j b x) a) (λ b q. P.symmetric x a j b ∙ S.row j b x a k q l h)
      ∙ sym (bit-mask_of 16 (λ a. each 16 (bit (get_or w j 0)) (λ b. bit (row_in A j b x) a)) a h)

  -- The meet of the domain with what every neighbour leaves is rule 4's reply.
  pub pure_stated : bit_and (get_or w x 0) (common_to_all A x w (get_or A.near x 0)) ≡ pure P x (list_in n w)
  unfolding common_to_all pure is_pure
  pure_stated =
      ap (λ y. bit_and y (mask_of 16 (λ a. each 32 (bit (get_or A.near x 0)) (goes A x w a)))) (mask_of_bits 16 _ small)
      ∙ mask_of_and 16 (bit (get_or w x 0)) (λ a. each 32 (bit (get_or A.near x 0)) (goes A x w a))
      ∙ mask_of_same 16 _ _ (λ a h.
      sym (ap₂ ◌&&◌ (ap (λ d. d a) (domain_of_lem n w x l))
      (neighbours P n A S x l (λ j. each 16 (domains (list_in n w) j) (λ b. P.compatible x a j b)) (goes A x w a)
      (λ j k. goes_with a j h k)
      (λ j f. each_in 16 (domains (list_in n w) j) (λ b. P.compatible x a j b) λ b q t. P.free x j f a b))))
