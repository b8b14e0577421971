use native.Mathlib.Omega.{arith}
use Rattle.rule_arc.proofs.LossSteps.{bars_universal, bars_later, bars_earlier}
use Rattle.rule_arc.proofs.bars.Goals as goal

pub returns-then-contains : goal.returns-then-contains
returns-then-contains c = bars_universal _ _ _ _ _ _ _ _ c.contains.ensures c.within.ensures c.if-contains.true c.common.ensures

pub returns-then-x-k : goal.returns-then-x-k
returns-then-x-k c = bars_later _ _ _ _ _ _ _ (omega arith) c.contains.ensures c.if-contains.false c.if-x-k.true c.supported_of.ensures

pub returns-else-x-k : goal.returns-else-x-k
returns-else-x-k c = bars_earlier _ _ _ _ _ _ c.contains.ensures c.if-contains.false c.if-x-k.false
