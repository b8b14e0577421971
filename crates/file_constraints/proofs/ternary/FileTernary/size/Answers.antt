use mathlib.Core.Path.{refl}
use Rattle.file_constraints.specs.Ternaries.{ternary_size}
use Rattle.file_constraints.proofs.ternary.FileTernary.size.Goals as goal

pub returns : goal.returns
unfolding ternary_size
returns c = rw (c.number.ensures.0, c.record.ensures.0, c.record.ensures.1) refl
