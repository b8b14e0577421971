use mathlib.Core.Path.{refl}
use Rattle.file_constraints.specs.Ternaries.{ternary_one, ternary_two, ternary_three}
use Rattle.file_constraints.proofs.ternary.FileTernary.scope.Goals as goal

pub returns : goal.returns
unfolding ternary_one ternary_two ternary_three
returns c = rw (c.number.ensures.0, c.number-2.ensures.0, c.number-3.ensures.0, c.record-r.ensures.0, c.record-r.ensures.1) refl
