use mathlib.Core.Path.{refl}
use Rattle.position.specs.Position.{popped}
use Rattle.position.proofs.popped.Goals as goal

pub returns : goal.returns
unfolding popped
returns c = refl
