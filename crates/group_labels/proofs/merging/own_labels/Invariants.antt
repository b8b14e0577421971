use mathlib.Core.Path.{◌≡◌}
use Rattle.game.specs.Lists.{list_of, spread}
use Rattle.group_labels.proofs.merging.own_labels.Given as goal

abbrev pub invariant-loop-i : goal.invariant-loop-i
invariant-loop-i l = l.out ≡ spread (list_of l.i (λ i. i))
