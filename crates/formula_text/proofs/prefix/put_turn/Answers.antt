use Rattle.formula_text.proofs.LineLaws.{turn_same, turn_other}
use Rattle.formula_text.proofs.prefix.put_turn.Goals as goal

pub returns-then-u-w : goal.returns-then-u-w
returns-then-u-w c = turn_other c.args.u c.args.w c.if-u-w.true c.put_end.ensures c.put_side.ensures

pub returns-else-u-w : goal.returns-else-u-w
returns-else-u-w c = turn_same _ c.args.u c.args.w c.if-u-w.false
