-- The winning values of a position's next variable, over the arrays of a problem.
use Rattle.std.specs.Prelude.{◌≡◌, Bool, List, [], ◌∷◌, ◌++◌, ℕ, ◌≤◌, ◌<◌, get_or, length}
use Rattle.game.specs.Problem.{Problem}
use Rattle.game.specs.Search.{is_solved, search_from, marked_values}
use Rattle.solver_arrays.specs.declared.arrays.Arrays.{Arrays}
use Rattle.solver_arrays.specs.Arrays.{Poses}
use Rattle.position.specs.declared.Position.{Position}
use Rattle.position.specs.Position.{plays_of}
use Rattle.search_run.specs.declared.Start.{Start}
use Rattle.search_run.specs.Run.{room_words, Startable}

-- What a marking in the room w is given: a search could start, and the position is not played out.
pub record Asked (s : Start) (A : Arrays) (w : List ℕ) : Type 0 where
  pub start : Startable s A
  pub next : s.position.plays < A.n
  pub room : room_words A.n ≤ length w

-- In every problem that the arrays state.
module _ (A : Arrays) where
  -- The search under S after the plays of p and then a is won exactly if r says so.
  abbrev pub WinsWith : (S : ℕ) (p : Position) (a : ℕ) (r : Bool) → Type 0
  WinsWith S p a r = (P : Problem) → Poses P A → r ≡ is_solved (search_from P S (plays_of p ++ (a ∷ [])))

  -- The masks are that of the values for which it is, and the variable's domain.
  abbrev pub Wins : (S : ℕ) (p : Position) (winning domain : ℕ) → Type 0
  Wins S p winning domain =
      (P : Problem) → Poses P A → (winning ≡ marked_values P S (plays_of p)) × (domain ≡ get_or P.domain p.plays 0)
