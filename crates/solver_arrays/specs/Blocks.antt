-- The blocks of rows that the index names.
use Rattle.std.specs.Prelude.{List, ℕ, ◌≤◌, get_or}

-- Every block of the index lies within the rows.
abbrev pub InRange : List ℕ → Type 0
InRange index = (k : ℕ) → get_or index k 0 ≤ 992
