-- The three-way constraints of a file one by one, as the records `TT` from q on state them; the crates above know q as the place where they
-- begin, and a record by its place.
use Rattle.std.specs.Prelude.{ℕ, ◌+◌, ◌*◌, ◌≤◌, ◌<◌, cond, List, ltb}
use Rattle.file_layout.specs.Layout.{number_at}
-- Where they begin, how many there are, and the place of one of them.
pub use Rattle.file_layout.specs.Layout.{after_constraints, t_of, ternary_at}

-- "bytes i < j < k < n": its variables, of the record at p; "a count of 1 to 16"; value e of triple q.
unfoldable pub ternary_one : List ℕ → ℕ → ℕ
ternary_one f p = number_at f p 0

unfoldable pub ternary_two : List ℕ → ℕ → ℕ
ternary_two f p = number_at f p 1

unfoldable pub ternary_three : List ℕ → ℕ → ℕ
ternary_three f p = number_at f p 2

unfoldable pub ternary_size : List ℕ → ℕ → ℕ
ternary_size f p = number_at f p 3

-- Behind the last triple it is 16, which is no value: the bytes there are of the next record.
unfoldable pub ternary_value : List ℕ → ℕ → ℕ → ℕ → ℕ
ternary_value f p e q = cond (ltb q (ternary_size f p)) (number_at f p (3 * q + 4 + e)) 16

-- t of them stand from q on in a file of n variables: each at a place that is near, its variables in order, its count from 1 to 16.
pub record Ternaries (f : List ℕ) (q n t : ℕ) : Type 0 where
  pub few : n + t ≤ 32
  pub near : (r : ℕ) → r < t → ternary_at f q r ≤ 17992
  pub order : (r : ℕ) → r < t →
      let p = ternary_at f q r in
      (ternary_one f p < ternary_two f p) × (ternary_two f p < ternary_three f p) × (ternary_three f p < n)
  pub counts : (r : ℕ) → r < t → (1 ≤ ternary_size f (ternary_at f q r)) × (ternary_size f (ternary_at f q r) ≤ 16)
