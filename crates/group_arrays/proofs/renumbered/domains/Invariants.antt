use mathlib.Core.Path.{◌≡◌}
use lib.ListN.{get_or}
use Rattle.game.specs.Lists.{list_of, spread}
use Rattle.group_arrays.specs.Members.{old_in}
use Rattle.group_arrays.proofs.renumbered.domains.Given as goal

abbrev pub invariant-loop-t : goal.invariant-loop-t
invariant-loop-t l = l.out ≡ spread (list_of l.t (λ t. get_or l.arrays.domains (old_in l.m t) 0))
