use mathlib.Core.Path.{ap, ◌∙◌}
use Rattle.game.specs.Lists.{spread}
use Rattle.search_run.proofs.FirstLaws.{words-leaf}
use Rattle.search_run.proofs.first.leaf_of.Goals as goal

pub returns : goal.returns
returns c = c.places.ensures ∙ ap spread (words-leaf _ _)
