-- The constraints of a file one by one: constraint t of those that stand one behind another from q on. The crates above know q as the place
-- where they begin, and a constraint by its number.
use Rattle.std.specs.Prelude.{ℕ, ◌+◌, ◌*◌, ◌≤◌, ◌<◌, Bool, ◌&&◌, ◌||◌, List, eqb, length}
use Rattle.file_layout.specs.Layout.{one_at, two_at, row_at}
-- Where the constraints of a file begin.
pub use Rattle.file_layout.specs.Layout.{constraints_at}

-- "bytes i and j": its variables.
unfoldable pub constraint_one : List ℕ → ℕ → ℕ → ℕ
constraint_one f q t = one_at f (q + 36 * t)

unfoldable pub constraint_two : List ℕ → ℕ → ℕ → ℕ
constraint_two f q t = two_at f (q + 36 * t)

-- "then 16 rows of two bytes": its row a.
unfoldable pub constraint_row : List ℕ → ℕ → ℕ → ℕ → ℕ
constraint_row f q t a = row_at f (q + 36 * t) a

-- It joins u and v, in either order.
unfoldable pub joins : List ℕ → ℕ → ℕ → ℕ → ℕ → Bool
joins f q u v t =
    eqb u (constraint_one f q t) && eqb v (constraint_two f q t) || eqb u (constraint_two f q t) && eqb v (constraint_one f q t)

-- It is there, whole.
unfoldable pub Whole : List ℕ → ℕ → ℕ → Type 0
Whole f q t = q + 36 * t + 36 ≤ length f

-- m constraints stand from q on: at most 496, each whole and of two variables in order, their pairs ascending strictly (j is below 32, so
-- 32 i + j ascends as (i, j) does).
pub record Constraints (f : List ℕ) (q m : ℕ) : Type 0 where
  pub few : m ≤ 496
  pub whole : (t : ℕ) → t < m → Whole f q t
  pub order : (t : ℕ) → t < m → (constraint_one f q t < constraint_two f q t) × (constraint_two f q t < 32)
  pub ascends : (s t : ℕ) → s < t → t < m →
      32 * constraint_one f q s + constraint_two f q s < 32 * constraint_one f q t + constraint_two f q t
