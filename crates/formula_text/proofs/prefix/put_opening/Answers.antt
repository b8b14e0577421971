use Rattle.formula_text.proofs.LineLaws.{open_first, open_next}
use Rattle.formula_text.proofs.prefix.put_opening.Goals as goal

pub returns-then-i-eq0 : goal.returns-then-i-eq0
returns-then-i-eq0 c = open_first _ _ _ c.if-i-eq0.true c.contains-w.ensures c.put_side.ensures

pub returns-else-i-eq0 : goal.returns-else-i-eq0
returns-else-i-eq0 c = open_next _ _ _ _ c.if-i-eq0.false c.contains.ensures c.contains-w.ensures c.put_turn.ensures
