use Rattle.judging.specs.Tests.{room_test}
use Rattle.judging.proofs.tests.room_test.Goals as goal

pub returns : goal.returns
unfolding room_test
returns c = c.needed.ensures
