use Rattle.rule_forward.proofs.steps.first_lost.Goals as goal

pub returns-then-lost : goal.returns-then-lost
returns-then-lost c = rw c.if-lost.true c.or.ensures

pub returns-else-lost : goal.returns-else-lost
returns-else-lost c = rw c.if-lost.false
