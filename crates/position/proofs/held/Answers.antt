use mathlib.Core.Path.{refl}
use Rattle.position.specs.Position.{held}
use Rattle.position.proofs.held.Goals as goal

pub returns : goal.returns
unfolding held
returns c = refl
