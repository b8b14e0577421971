-- A literal read of a line.
use Rattle.std.specs.Prelude.{ℕ, ◌+◌, ◌*◌, ◌<◌, ◌≤◌, ◌≡◌, not, List, [], ◌∷◌, Option, MatchOption}
use Rattle.formula.specs.Formula.{Literal}
use Rattle.formula.specs.Text.{literals_at, end_at}
use Rattle.formula_index.specs.declared.line.Literal.{Literal as Read}

-- What was read, as a literal of the formula.
abbrev pub literal_of : Read → Literal
literal_of x = record { positive = not x.negative; boolean = x.boolean }

-- A call at the line of t that has no more than m literals from p on gave r, and leaves that of t' with no more than m' from p' on.
pub record Reads (t : List ℕ) (m p : ℕ) (r : Option Read) (t' : List ℕ) (m' p' : ℕ) : Type 0 where
  pub near : p' + 11 * m' ≤ p + 11 * m
  pub ends : end_at t' m' p' ≡ end_at t m p
  pub gives : MatchOption r ((literals_at t m p ≡ []) × (m' ≡ 0)) (λ x. (literals_at t m p ≡ literal_of x ∷ literals_at t' m' p') × (m' < m))
