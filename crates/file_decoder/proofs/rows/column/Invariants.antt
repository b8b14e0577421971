use mathlib.Core.Path.{◌≡◌}
use Rattle.file_constraints.specs.Constraints.{constraint_row}
use Rattle.mask.specs.Mask.{bit, mask_of}
use Rattle.file_decoder.proofs.rows.column.Given as goal

abbrev pub invariant-loop-a : goal.invariant-loop-a
invariant-loop-a l = l.out ≡ mask_of l.a (λ x. bit (constraint_row l.c.file.now l.c.start l.c.number x) l.b)
