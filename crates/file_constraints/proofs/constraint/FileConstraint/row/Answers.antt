use Rattle.file_layout.specs.Layout.{row_at}
use Rattle.file_constraints.specs.Constraints.{constraint_row}
use Rattle.file_constraints.proofs.constraint.FileConstraint.row.Goals as goal

pub returns : goal.returns
unfolding constraint_row row_at
returns c = c.word_at.ensures
