use Rattle.rule_forward.specs.OneValue.{left_of}
use Rattle.rule_forward.proofs.steps.left_of.Goals as goal

pub returns-then-u : goal.returns-then-u
unfolding left_of
returns-then-u c = rw c.if-u.true

pub returns-else-u : goal.returns-else-u
unfolding left_of
returns-else-u c = rw c.if-u.false
