-- Texts of ordered formulas with at most 512 booleans and 127,008 clauses, whose first line tells how many booleans there are.
use Rattle.std.specs.Prelude.{ℕ, ◌≤◌, ◌≡◌, List, length}
use Rattle.formula.specs.Text.{number_at, read_text}
use Rattle.formula.specs.Ordered.{Ordered}

pub record Judgeable (t : List ℕ) : Type 0 where
  pub header : length (read_text t).prefix ≡ number_at t 6
  pub booleans : length (read_text t).prefix ≤ 512
  pub clauses : length (read_text t).clauses ≤ 127008
  pub ordered : Ordered (read_text t)
