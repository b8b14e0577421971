use Rattle.formula_clauses.proofs.LineLaws.{existential_none, existential_some}
use Rattle.formula_clauses.proofs.Clauses.put_existential.Goals as goal

pub returns-then-not-x : goal.returns-then-not-x
returns-then-not-x c = existential_some _ _ _ c.coding_of-x.ensures c.if-not-x.true c.put_some.ensures

pub returns-else-not-x : goal.returns-else-not-x
returns-else-not-x c = existential_none _ _ _ c.coding_of-x.ensures _ c.if-not-x.false
