-- The variables of a group, by their new numbers.
use Rattle.std.specs.Prelude.{◌≡◌, ℕ, ◌%◌, Bool, ◌&&◌, eqb, get_or}
use Rattle.mask.specs.Range.{count, first}
use Rattle.game.specs.Lists.{list_of, spread}
use Rattle.group_labels.specs.declared.Groups.{Groups}
use Rattle.group_arrays.specs.declared.members.Members.{Members}

-- Variable i is in group g; the variable at place t of those in it.
unfoldable pub grouped_in : Groups → ℕ → ℕ → Bool
grouped_in r g i = eqb (get_or r.group i 0) g

unfoldable pub at_place_in : Groups → ℕ → ℕ → ℕ → ℕ
at_place_in r n g t = first n (λ i. grouped_in r g i && eqb (count i (grouped_in r g)) t)

-- All of group g among n variables are there, in their order.
pub record Holds (r : Groups) (n g : ℕ) (m : Members) : Type 0 where
  pub size : m.size ≡ count n (grouped_in r g)
  pub old : m.old ≡ spread (list_of m.size (at_place_in r n g))

-- The variable with new number t, cut to 32, which cuts nothing of one that is there.
unfoldable pub old_in : Members → ℕ → ℕ
old_in m t = get_or m.old t 0 % 32
