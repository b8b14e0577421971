use Rattle.problem_writer.proofs.ListingLaws.{tied_then, tied_else}
use Rattle.problem_writer.proofs.tied.Goals as goal

pub returns-then-contains : goal.returns-then-contains
returns-then-contains c = let a = c.args in tied_then a.arrays.now a.i a.j c.contains.ensures c.if-contains.true

pub returns-else-contains : goal.returns-else-contains
returns-else-contains c = let a = c.args in tied_else a.arrays.now a.i a.j c.contains.ensures c.if-contains.false c.contains-else-contains.ensures
