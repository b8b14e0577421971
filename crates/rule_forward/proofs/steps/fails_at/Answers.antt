use Rattle.rule_forward.specs.OneValue.{fails_at}
use Rattle.rule_forward.proofs.steps.fails_at.Goals as goal

pub returns-then-u : goal.returns-then-u
unfolding fails_at
returns-then-u c = rw c.if-u.true

pub returns-else-u : goal.returns-else-u
unfolding fails_at
returns-else-u c = rw c.if-u.false
