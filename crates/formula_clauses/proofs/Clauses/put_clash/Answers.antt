use Rattle.formula_clauses.specs.Clauses.{clash_of}
use Rattle.formula_clauses.proofs.LineLaws.{lines_two, lines_only}
use Rattle.formula_clauses.proofs.Clauses.put_clash.Goals as goal

pub returns-then-other-x : goal.returns-then-other-x
unfolding clash_of
returns-then-other-x c = let a = c.args in lines_two a.x a.p _ c.if-other-x.true c.put_ways.ensures c.put_ways-then-other-x.ensures

pub returns-else-other-x : goal.returns-else-other-x
unfolding clash_of
returns-else-other-x c = let a = c.args in lines_only a.x a.p _ c.if-other-x.false c.put_ways.ensures
