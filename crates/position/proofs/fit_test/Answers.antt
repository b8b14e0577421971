use Rattle.position.specs.Position.{fit_test}
use Rattle.position.proofs.fit_test.Goals as goal

pub returns : goal.returns
unfolding fit_test
returns c = cc
