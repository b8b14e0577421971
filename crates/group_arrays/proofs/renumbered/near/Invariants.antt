use mathlib.Core.Path.{◌≡◌}
use lib.ListN.{get_or}
use Rattle.game.specs.Lists.{list_of, spread}
use Rattle.group_arrays.specs.Members.{old_in}
use Rattle.group_arrays.specs.Selected.{renumbered}
use Rattle.group_arrays.proofs.renumbered.near.Given as goal

abbrev pub invariant-loop-t : goal.invariant-loop-t
invariant-loop-t l = l.out ≡ spread (list_of l.t (λ t. renumbered l.m (get_or l.arrays.near (old_in l.m t) 0)))
