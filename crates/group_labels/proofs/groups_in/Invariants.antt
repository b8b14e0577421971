use mathlib.Core.Path.{◌≡◌}
use Rattle.game.specs.Lists.{list_of, spread}
use Rattle.group_labels.proofs.LabelLaws.{place_in}
use Rattle.group_labels.proofs.groups_in.Given as goal

abbrev pub invariant-loop-i : goal.invariant-loop-i
invariant-loop-i l = l.group ≡ spread (list_of l.i (place_in l.labels))
