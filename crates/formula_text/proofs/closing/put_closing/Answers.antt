use Rattle.formula_text.proofs.BodyLaws.{closing_put, closing_none}
use Rattle.formula_text.proofs.closing.put_closing.Goals as goal

pub returns-then-closes : goal.returns-then-closes
returns-then-closes c = closing_put _ _ _ c.closes.ensures c.if-closes.true c.all_booleans.ensures.0 c.put_some.ensures

pub returns-else-closes : goal.returns-else-closes
returns-else-closes c = closing_none _ _ _ c.closes.ensures c.if-closes.false
