-- The groups of a problem: its variables, joined by chains of constraints.
use Rattle.std.specs.Prelude.{ℕ, zero, suc, ◌<◌, Bool, cond, ◌&&◌, List, map, T, eqb, min, max, get_or}
use Rattle.mask.specs.Range.{count, first}
use Rattle.game.specs.Problem.{Problem}
use Rattle.game.specs.Lists.{list_of}
use Rattle.problem_numbers.specs.Numbers.{tied}

-- "Two choices hang together if a chain of tables joins them": a chain of any length.
pub data Chain (P : Problem) : ℕ → ℕ → Type 0 where
  here : {i : ℕ} → Chain P i i
  link : {i k j : ℕ} → i < P.n → k < P.n → T (tied P i k) → Chain P k j → Chain P i j

-- A label where low and high turned out to be labels of one group: the larger becomes the smaller.
unfoldable pub relabelled : ℕ → ℕ → ℕ → ℕ
relabelled low high v = cond (eqb v high) low v

-- The labels after x and y were found to hang together.
unfoldable pub merge : List ℕ → ℕ → ℕ → List ℕ
merge l x y = map (relabelled (min (get_or l x 0) (get_or l y 0)) (max (get_or l x 0) (get_or l y 0))) l

-- The labels after the constraints of y with the first k variables, and after those of the first k variables with each other; `tie` says
-- which two a constraint joins, and l has the labels before.
module _ (tie : ℕ → ℕ → Bool) where
  unfoldable pub merged_with : List ℕ → ℕ → ℕ → List ℕ
  merged_with l y zero = l
  merged_with l y (suc x) = cond (tie x y) (merge (merged_with l y x) x y) (merged_with l y x)

  unfoldable pub merged : List ℕ → ℕ → List ℕ
  merged l zero = l
  merged l (suc y) = merged_with (merged l y) y y

module _ (P : Problem) where
  open P use {n}

  -- The labels after all constraints; at first each variable has its own.
  unfoldable pub labels : List ℕ
  labels = merged (tied P) (list_of n (λ i. i)) n

  -- The smallest variable of i's group; a variable that is the smallest of its group.
  unfoldable pub smallest : ℕ → ℕ
  smallest i = get_or labels i 0

  unfoldable pub leads : ℕ → Bool
  leads i = eqb (smallest i) i

  -- "numbered from 0 by their smallest choice": the group of i, and how many groups there are.
  unfoldable pub group_of : ℕ → ℕ
  group_of i = count (smallest i) leads

  unfoldable pub groups : ℕ
  groups = count n leads

  -- The variables of group g, "renumbered in order": how many come before i, which is the one at place t, and how many there are.
  unfoldable pub in_group : ℕ → ℕ → Bool
  in_group g i = eqb (group_of i) g

  unfoldable pub new_number : ℕ → ℕ → ℕ
  new_number g i = count i (in_group g)

  unfoldable pub old_number : ℕ → ℕ → ℕ
  old_number g t = first n (λ i. in_group g i && eqb (new_number g i) t)

  unfoldable pub group_size : ℕ → ℕ
  group_size g = new_number g n
