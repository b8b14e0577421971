use Prim.Native.Nat.{ℕ, ◌^◌, ◌≤◌, ◌<◌}
use mathlib.Core.Path.{◌≡◌, ap, ◌∙◌}
use mathlib.Core.List.{List}
use lib.Dec.{eqb}
use Rattle.mask.specs.Mask.{mask_of}
use Rattle.file_constraints.specs.Ternaries.{ternary_value}
use Rattle.ternary_decoder.specs.Tables.{value_mask}
use Rattle.ternary_decoder.proofs.MaskLaws.{one_place, no_place}
use Rattle.ternary_decoder.proofs.rows.value_mask.Goals as goal

-- The mask of a value that is there, and of one that is not.
module _ (f : List ℕ) (p e q a : ℕ) (is : a ≡ ternary_value f p e q) where
  there : (w : ℕ) → a < 16 → w ≡ 2 ^ a → w ≡ value_mask f p e q
  unfolding value_mask
  there w h s = s ∙ one_place a h ∙ ap (λ (b : ℕ). mask_of 16 (λ x. eqb x b)) is

  none : 16 ≤ a → 0 ≡ value_mask f p e q
  unfolding value_mask
  none h = no_place a h ∙ ap (λ (b : ℕ). mask_of 16 (λ x. eqb x b)) is

pub returns-then-a-lt16 : goal.returns-then-a-lt16
returns-then-a-lt16 c = there c.args.c.now.file.now c.args.c.now.place c.args.e c.args.q _ c.value-a.ensures _ c.if-a-lt16.true c.single.ensures

pub returns-else-a-lt16 : goal.returns-else-a-lt16
returns-else-a-lt16 c = none c.args.c.now.file.now c.args.c.now.place c.args.e c.args.q _ c.value-a.ensures c.if-a-lt16.false
