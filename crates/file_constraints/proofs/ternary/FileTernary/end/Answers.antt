use mathlib.Core.Path.{refl}
use Rattle.file_constraints.proofs.ternary.FileTernary.end.Goals as goal

pub returns : goal.returns
returns c = rw (c.body.ensures.0, c.record.ensures.0, c.record.ensures.1) refl
