use mathlib.Core.Path.{ap, ◌∙◌}
use Rattle.game.specs.Lists.{spread}
use Rattle.search_run.proofs.FirstLaws.{words-list}
use Rattle.search_run.proofs.first.list_of.Goals as goal

pub returns : goal.returns
returns c = c.places.ensures ∙ ap spread (words-list _ _)
