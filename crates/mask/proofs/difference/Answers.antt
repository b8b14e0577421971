use mathlib.Core.Path.{ap₂, ◌∙◌}
use Rattle.mask.specs.Mask.{diff}
use Rattle.mask.proofs.Masks.{diff_lt}
use Rattle.mask.proofs.difference.Goals as goal

pub narrow-requires : goal.narrow-requires
unfolding diff
narrow-requires g c = diff_lt g.M.Mask.width c.wide-a.result _ (rw c.wide-a.ensures.value c.wide-a.ensures.fits)

pub returns : goal.returns
unfolding diff
returns g c = c.narrow.ensures ∙ ap₂ diff c.wide-a.ensures.value c.wide-b.ensures.value
