use mathlib.Core.Path.{refl}
use Rattle.position.specs.Position.{pushed}
use Rattle.position.proofs.pushed.Goals as goal

pub returns : goal.returns
unfolding pushed
returns c = refl
