use mathlib.Core.Path.{refl}
use Rattle.rule_narrow.specs.Narrow.{same_row}
use Rattle.rule_narrow.proofs.same_row.Goals as goal

pub returns : goal.returns
unfolding same_row
returns c = rw (c.row.ensures, c.row-2.ensures) refl
