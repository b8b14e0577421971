-- Labels in 32 places, and the groups that they come to.
use Rattle.std.specs.Prelude.{◌≡◌, ℕ, Bool, List, eqb, get_or}
use Rattle.game.specs.Problem.{Problem}
use Rattle.game.specs.Lists.{list_of, spread}
use Rattle.solver_arrays.specs.declared.arrays.Arrays.{Arrays}
use Rattle.solver_arrays.specs.Arrays.{Poses}
use Rattle.group.specs.Groups.{group_of, groups}
use Rattle.group_labels.specs.declared.Groups.{Groups}

-- Each its own label.
unfoldable pub own_labels : List ℕ
own_labels = list_of 32 (λ i. i)

-- Variable i has its own label.
unfoldable pub leads_in : List ℕ → ℕ → Bool
leads_in labels i = eqb (get_or labels i 0) i

-- r has the groups of P; and those of whatever problem the arrays state.
pub record Grouped (P : Problem) (r : Groups) : Type 0 where
  pub count : r.count ≡ groups P
  pub group : r.group ≡ spread (list_of P.n (group_of P))

abbrev pub GroupsOf : Arrays → Groups → Type 0
GroupsOf A r = (P : Problem) → Poses P A → Grouped P r
