use Rattle.refusal.specs.Chain.{need}
use Rattle.refusal.proofs.needed.Goals as goal

pub returns-then-b : goal.returns-then-b
unfolding need
returns-then-b g c = rw c.if-b.true

pub returns-else-b : goal.returns-else-b
unfolding need
returns-else-b g c = rw c.if-b.false
