-- The arrays of a group's problem, part by part.
use Rattle.std.specs.Prelude.{◌≡◌, ℕ, ◌+◌, ◌*◌, ◌/◌, ◌%◌, get_or}
use Rattle.mask.specs.Mask.{bit, mask_of}
use Rattle.game.specs.Problem.{Problem}
use Rattle.game.specs.Lists.{list_of, spread}
use Rattle.solver_arrays.specs.declared.arrays.Arrays.{Arrays}
use Rattle.solver_arrays.specs.Arrays.{Poses}
use Rattle.group.specs.GroupProblem.{group_problem}
use Rattle.group_arrays.specs.declared.members.Members.{Members}
use Rattle.group_labels.specs.declared.Groups.{Groups}
use Rattle.group_arrays.specs.Members.{Holds, old_in}

-- The variables of a mask.
unfoldable pub renumbered : Members → ℕ → ℕ
renumbered m mask = mask_of m.size (λ t. bit mask (old_in m t))

-- The block of rows from s towards t, where x is 32 s + t.
unfoldable pub index_in : Members → Arrays → ℕ → ℕ
index_in m A x = get_or A.index (32 * old_in m (x / 32) + old_in m (x % 32)) 0

-- The arrays B say of the members m, by their new numbers, what A says of them by their old ones. All of them are to play.
pub record Renumbers (A : Arrays) (m : Members) (B : Arrays) : Type 0 where
  pub own : B.own ≡ m.size
  pub n : B.n ≡ m.size
  pub universal : B.universal ≡ renumbered m A.universal
  pub domains : B.domains ≡ spread (list_of m.size (λ t. get_or A.domains (old_in m t) 0))
  pub near : B.near ≡ spread (list_of m.size (λ t. renumbered m (get_or A.near (old_in m t) 0)))
  pub index : B.index ≡ list_of 1024 (index_in m A)
  pub rows : B.rows ≡ A.rows

-- B are the arrays of group g, of the groups r: its members renumbered; for the problem that A states, they state that of the group.
pub record Selects (A : Arrays) (r : Groups) (g : ℕ) (B : Arrays) : Type 0 where
  pub members : Members
  pub holds : Holds r A.n g members
  pub renumbers : Renumbers A members B
  pub states : (P : Problem) → Poses P A → Poses (group_problem P g) B
