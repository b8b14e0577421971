use Rattle.formula_clauses.proofs.LineLaws.{lines_two, lines_only}
use Rattle.formula_clauses.proofs.Clauses.put_ways.Goals as goal

pub returns-then-other-y : goal.returns-then-other-y
returns-then-other-y c = let a = c.args in lines_two a.y a.q _ c.if-other-y.true c.put_clause.ensures c.put_clause-then-other-y.ensures

pub returns-else-other-y : goal.returns-else-other-y
returns-else-other-y c = let a = c.args in lines_only a.y a.q _ c.if-other-y.false c.put_clause.ensures
