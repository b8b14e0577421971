use Rattle.problem_writer.proofs.ListingLaws.{row_then, row_else}
use Rattle.problem_writer.proofs.constraints.row_within.Goals as goal

pub returns-then-contains : goal.returns-then-contains
returns-then-contains c = let a = c.args in row_then a.arrays.now a.i a.j a.a c.contains.ensures c.if-contains.true c.row.ensures c.meet.ensures

pub returns-else-contains : goal.returns-else-contains
returns-else-contains c = let a = c.args in row_else a.arrays.now a.i a.j a.a c.contains.ensures c.if-contains.false
