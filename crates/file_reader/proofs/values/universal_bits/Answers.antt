use mathlib.Core.Path.{refl, sym, ap, ◌∙◌}
use native.Mathlib.Numerals.{add-one}
use native.Mathlib.Omega.{arith}
use Rattle.mask.specs.Mask.{mask_of}
use Rattle.file_reader.specs.Reading.{universal_bits}
use Rattle.file_reader.proofs.values.universal_bits.Goals as goal
use Rattle.file_reader.proofs.values.universal_bits.Goals.{then-is_universal, else-is_universal}

pub loop-k-init : goal.loop-k-init
unfolding universal_bits mask_of
loop-k-init c = refl

pub loop-k-preserved : goal.loop-k-preserved
unfolding universal_bits mask_of
loop-k-preserved c = rw add-one
    (elim c.if-is_universal.branch [
      | then-is_universal w ↦ w.out-is ∙ rw (sym c.is_universal.ensures ∙ w.if-is_universal.true, w.single-out.ensures, c.loop-k.invariant)
      | else-is_universal w ↦ w.out-is ∙ rw (sym c.is_universal.ensures ∙ w.if-is_universal.false, c.loop-k.invariant)
    ])

pub returns : goal.returns
returns c = c.loop-k.invariant ∙ ap (universal_bits _ _) (omega arith)
