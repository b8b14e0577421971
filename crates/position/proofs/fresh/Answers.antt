use mathlib.Core.Path.{refl}
use Rattle.game.specs.Lists.{spread}
use Rattle.position.specs.Position.{shown}
use Rattle.position.proofs.fresh.Goals as goal

pub returns : goal.returns
unfolding spread shown
returns c = refl
