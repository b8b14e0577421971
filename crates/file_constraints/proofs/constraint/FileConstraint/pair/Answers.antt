use mathlib.Core.Path.{ap₂}
use Rattle.file_constraints.specs.Constraints.{constraint_one, constraint_two}
use Rattle.file_constraints.proofs.constraint.FileConstraint.pair.Goals as goal

pub returns : goal.returns
unfolding constraint_one constraint_two
returns c = ap₂ (λ i j. (i, j)) c.byte_at.ensures.0 c.byte_at-2.ensures.0
