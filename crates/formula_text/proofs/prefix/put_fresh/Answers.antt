use Rattle.formula_text.proofs.LineLaws.{fresh_put, fresh_none}
use Rattle.formula_text.proofs.prefix.put_fresh.Goals as goal

pub returns-then-closes : goal.returns-then-closes
returns-then-closes c = fresh_put _ _ _ c.closes.ensures c.if-closes.true c.all_booleans.ensures.0 c.put_turn.ensures c.put_words.ensures

pub returns-else-closes : goal.returns-else-closes
returns-else-closes c = fresh_none _ _ _ c.closes.ensures c.if-closes.false
