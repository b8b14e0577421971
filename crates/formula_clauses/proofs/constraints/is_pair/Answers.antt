use borrow.Author.Tests.{lt-ltb, le-ltb}
use Rattle.formula_clauses.proofs.constraints.is_pair.Goals as goal

pub returns-then-i-j : goal.returns-then-i-j
returns-then-i-j c = rw (lt-ltb _ _ c.if-i-j.true) c.contains.ensures

pub returns-else-i-j : goal.returns-else-i-j
returns-else-i-j c = rw (le-ltb _ _ c.if-i-j.false)
