-- What marking tells of a file, a position, a rule set's number and a room, and what the room holds afterwards.
use Rattle.std.specs.Prelude.{ℕ, ◌≡◌, List, [], ◌∷◌, ltb, get_or, length, Result}
use Rattle.refusal.specs.declared.reason.Reason.{Reason}
use Rattle.refusal.specs.declared.reason.Reason.TheVariants.{Done, Misfit}
use Rattle.refusal.specs.declared.reason.Refusal.{Refusal}
use Rattle.refusal.specs.Told.{Told, reason_told, fault_told, refusal_told, told_by}
use Rattle.refusal.specs.Replied.{replied_for, list_for}
use Rattle.refusal.specs.Chain.{Test, ◌then◌, need}
use Rattle.game.specs.Problem.{Problem}
use Rattle.game.specs.Ternary.{TernaryProblem, ternary_winning}
use Rattle.game.specs.Search.{marked_values}
use Rattle.solver_arrays.specs.declared.arrays.Arrays.{Arrays}
use Rattle.solver_arrays.specs.Arrays.{Poses}
use Rattle.file_decoder.specs.Read.{read_ternary}
use Rattle.position.specs.declared.Position.{Position}
use Rattle.position.specs.Position.{plays_of, fits_in}
use Rattle.search_words.specs.TurnRoom.{zeroed}
use Rattle.search_run.specs.Run.{room_words}
use Rattle.judging.specs.Tests.{position_test, room_for, room_test}
use Rattle.marking.specs.declared.Marks.{Marks}

-- The values of a finished answer: the mask of the good options, and the next choice's mask, in which all others are bad.
abbrev pub mark_values : Marks → List ℕ
mark_values m = m.winning ∷ m.domain ∷ []

-- The answer in document 01's numbers.
abbrev pub told : Result Marks Refusal → Told
told = told_by mark_values refusal_told

-- The tests of marking: 8, 23, "22 Done: marks asked when all are played", 12.
unfoldable pub mark_test : ℕ → List ℕ → Position → ℕ → ℕ → ℕ → Test
mark_test n masks p set needed words = position_test n masks p set then (need (ltb p.plays n) Done then room_test needed words)

-- Those behind the rule set's.
unfoldable pub mark_place_test : ℕ → List ℕ → Position → ℕ → ℕ → Test
mark_place_test n masks p needed words = need (fits_in p n masks) Misfit then (need (ltb p.plays n) Done then room_test needed words)

-- Over a problem J with three-way constraints: the winning values of the next variable, under every set, and its domain; the room as judging leaves it.
module _ (J : TernaryProblem) (p : Position) (set : ℕ) where
  open J.binary use {n, domain}

  unfoldable pub mark_reply : ℕ → Told
  mark_reply words = replied_for (mark_test n domain p set (room_for J) words) (ternary_winning J (plays_of p) ∷ get_or domain p.plays 0 ∷ [])

  unfoldable pub mark_room : List ℕ → List ℕ
  mark_room room = list_for (mark_test n domain p set (room_for J) (length room)) (zeroed 0 (room_for J) room) room

-- Over a file f.
module _ (f : List ℕ) (p : Position) (set : ℕ) where
  unfoldable pub mark_told : ℕ → Told
  mark_told words = read_ternary f fault_told (λ J. mark_reply J p set words)

  unfoldable pub mark_left : List ℕ → List ℕ
  mark_left room = read_ternary f (λ e. room) (λ J. mark_room J p set room)

-- Over the arrays A, in every problem that they state; the first A.own variables are to play.
module _ (A : Arrays) where
  -- Where the tests give t: the reply r, and the room from w to w', by searches under this very set.
  abbrev pub MarksBy : Test → (p : Position) (set : ℕ) (w w' : List ℕ) (r : Result Marks Reason) → Type 0
  MarksBy t p set w w' r =
      (P : Problem) → Poses P A
      → (told_by mark_values reason_told r ≡ replied_for t (marked_values P set (plays_of p) ∷ get_or P.domain p.plays 0 ∷ []))
      × (w' ≡ list_for t (zeroed 0 (room_words A.n) w) w)

  -- By the tests behind the rule set's, and by all.
  abbrev pub MarksWith : (p : Position) (set : ℕ) (w w' : List ℕ) (r : Result Marks Reason) → Type 0
  MarksWith p set w w' r = MarksBy (mark_place_test A.own A.domains p (room_words A.n) (length w)) p set w w' r

  abbrev pub MarksIn : (p : Position) (set : ℕ) (w w' : List ℕ) (r : Result Marks Reason) → Type 0
  MarksIn p set w w' r = MarksBy (mark_test A.own A.domains p set (room_words A.n) (length w)) p set w w' r
