-- "Every call with a file reads it first": an accepted file goes on to what it states, a refused one hands on its fault.
use Rattle.std.specs.Prelude.{ℕ, ◌≡◌, refl, Ok, Err, List}
use Rattle.refusal.specs.declared.reason.Fault.{Fault}
use Rattle.refusal.specs.Chain.{Verdict, Fine}
use Rattle.file_reader.specs.Reading.{verdict_of}
use Rattle.game.specs.Problem.{Problem}
use Rattle.game.specs.Ternary.{TernaryProblem}
use Rattle.file_decoder.specs.FileProblem.{problem_of, ternary_of, ordinary_of}

module _ {A : Type 0} (f : List ℕ) (refusal : Fault → A) where
  unfoldable pub read_as : (verdict_of f ≡ Fine → A) → (v : Verdict) → verdict_of f ≡ v → A
  read_as reply (Ok u) fine = reply fine
  read_as reply (Err e) fails = refusal e

  unfoldable pub read_by : (verdict_of f ≡ Fine → A) → A
  read_by reply = read_as reply (verdict_of f) refl

  -- On to the file's problem, of constraints of two variables; to that with its three-way constraints; and to the ordinary problem, which the solver is handed.
  abbrev pub read_first : (Problem → A) → A
  read_first reply = read_by (λ fine. reply (problem_of f fine))

  abbrev pub read_ternary : (TernaryProblem → A) → A
  read_ternary reply = read_by (λ fine. reply (ternary_of f fine))

  abbrev pub read_ordinary : (Problem → A) → A
  read_ordinary reply = read_by (λ fine. reply (ordinary_of f fine))
