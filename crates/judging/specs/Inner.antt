-- Searching over the arrays A, in every problem that they state; the first A.own variables are to play.
use Rattle.std.specs.Prelude.{ℕ, ◌≡◌, List, length, Result}
use Rattle.refusal.specs.declared.reason.Reason.{Reason}
use Rattle.refusal.specs.Chain.{Test}
use Rattle.refusal.specs.Told.{reason_told}
use Rattle.refusal.specs.Replied.{list_for}
use Rattle.game.specs.Problem.{Problem}
use Rattle.solver_arrays.specs.declared.arrays.Arrays.{Arrays}
use Rattle.solver_arrays.specs.Arrays.{Poses}
use Rattle.position.specs.declared.Position.{Position}
use Rattle.search_words.specs.TurnRoom.{zeroed}
use Rattle.search_run.specs.declared.Ran.{Ran}
use Rattle.search_run.specs.Run.{room_words}
use Rattle.judging.specs.Tests.{place_test, judge_test}
use Rattle.judging.specs.Searching.{found_by, found_for, search_findings}

module _ (A : Arrays) where
  -- The reply r, and the room from w to w', where the tests give t: what a search under this very set finds.
  abbrev pub FindsBy : Test → (p : Position) (set : ℕ) (w w' : List ℕ) (r : Result Ran Reason) → Type 0
  FindsBy t p set w w' r =
      (P : Problem) → Poses P A
      → (found_by reason_told r ≡ found_for t (search_findings P p set)) × (w' ≡ list_for t (zeroed 0 (room_words A.n) w) w)

  -- By the tests behind the rule set's, and by all.
  abbrev pub Places : (p : Position) (set : ℕ) (w w' : List ℕ) (r : Result Ran Reason) → Type 0
  Places p set w w' r = FindsBy (place_test A.own A.domains p (room_words A.n) (length w)) p set w w' r

  abbrev pub Searches : (p : Position) (set : ℕ) (w w' : List ℕ) (r : Result Ran Reason) → Type 0
  Searches p set w w' r = FindsBy (judge_test A.own A.domains p set (room_words A.n) (length w)) p set w w' r
