use mathlib.Core.Path.{◌≡◌}
use Rattle.mask.specs.Range.{count}
use Rattle.game.specs.Lists.{list_of, spread}
use Rattle.group_arrays.specs.Members.{grouped_in, at_place_in}
use Rattle.group_arrays.proofs.group_members.Given as goal

abbrev pub invariant-loop-i : goal.invariant-loop-i
invariant-loop-i l = (l.size ≡ count l.i (grouped_in l.groups l.g)) × (l.old ≡ spread (list_of l.size (at_place_in l.groups l.n l.g)))
