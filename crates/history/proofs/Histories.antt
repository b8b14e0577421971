-- DEMAND 3: for every accepted file, every list of calls (plays of any number at all, take-backs, locks, unlocks to any number at all, refused ones
-- among them) from the fresh position, and every rule set: the position reached shows the plays that still stand by the plain list, and its depth; the
-- marks and the open values there are those of the game with these plays; and the next call tells what the plain list says, and leaves all as it is where
-- it is refused.
use mathlib.Core.Path.{◌≡◌, refl, ap, ◌∙◌}
use mathlib.Core.Bool.{Bool, true, false}
use mathlib.Core.List.{List, [], ◌∷◌}
use Prim.Native.Nat.{ℕ, ◌≤◌}
use lib.Dec.{T, ltb}
use lib.ListN.{get_or, length}
use borrow.Author.Tests.{le-leb}
use Rattle.mask.proofs.Logic.{holds}
use Rattle.refusal.specs.Replied.{replied_for}
use Rattle.refusal.specs.Chain.{Fine, ◌then◌, need}
use Rattle.rule_set.specs.RuleSet.{greatest_set, is_rule_set}
use Rattle.file_records.specs.Records.{verdict_of}
use Rattle.game.specs.Problem.{Problem}
use Rattle.game.specs.Ternary.{TernaryProblem, ternary_winning}
use Rattle.game.specs.Position.{legal}
use Rattle.game.specs.Calls.{Call}
use Rattle.theory.proofs.Standing.{standing-legal, standing_depth_lem}
use Rattle.file_decoder.specs.FileProblem.{problem_of, ternary_of}
use Rattle.file_decoder.proofs.ReadLaws.{read_fine}
use Rattle.position.specs.declared.Position.{Position}
use Rattle.position.specs.Position.{shown, plays_of, fits_in}
use Rattle.position.proofs.Shown.{plays_shown}
use Rattle.session.specs.Told.{open_told}
use Rattle.session.specs.History.{reached_by}
use Rattle.session.proofs.HistoryLaws.{few, legal_fit, reached_shows, reached-opens, reached-told, reached_stays}
use Rattle.judging.specs.Tests.{position_test, room_for, room_test}
use Rattle.marking.specs.Marking.{mark_test, mark_reply, mark_told}
use Rattle.history.specs.Replay.{list_marked, Demand3}

module _ (f : List ℕ) (fine : verdict_of f ≡ Fine) where
  abbrev P : Problem
  P = problem_of f fine

  abbrev J : TernaryProblem
  J = ternary_of f fine

  fits : (l : List ℕ) (d : ℕ) → T (legal P l) → d ≤ length l → fits_in (shown d l) P.n P.domain ≡ true
  fits l d t k = holds (legal_fit P (few f fine) l d t k)

  -- Marks at a position that shows legal plays, by whether a variable is left.
  marks_by_lem : (l : List ℕ) (d set words : ℕ) → set ≤ greatest_set → room_for J ≤ words → T (legal P l) → d ≤ length l → (b : Bool) → ltb (length l) P.n ≡ b
      → replied_for (mark_test P.n P.domain (shown d l) set (room_for J) words) (ternary_winning J (plays_of (shown d l)) ∷ get_or P.domain (length l) 0 ∷ []) ≡ list_marked J l
  unfolding mark_test position_test room_test is_rule_set replied_for list_marked need ◌then◌ shown ternary_of
  marks_by_lem l d set words s r t k true e = rw (le-leb set greatest_set s, fits l d t k, e, le-leb (room_for J) words r, plays_shown d l)
  marks_by_lem l d set words s r t k false e = rw (le-leb set greatest_set s, fits l d t k, e)

  marks_told : (l : List ℕ) (d set words : ℕ) → set ≤ greatest_set → room_for J ≤ words → T (legal P l) → d ≤ length l
      → mark_told f (shown d l) set words ≡ list_marked J l
  unfolding mark_told mark_reply shown ternary_of
  marks_told l d set words s r t k = read_fine f _ _ fine ∙ marks_by_lem l d set words s r t k (ltb (length l) P.n) refl

  pub demand_3 : (calls : List Call) (set words : ℕ)
      → Demand3 f fine calls set words (reached_by f calls) (mark_told f (reached_by f calls) set words) (open_told f (reached_by f calls))
  unfolding ternary_of
  demand_3 calls set words = record {
    shows = reached_shows f fine calls;
    marked = λ s r. ap (λ (p : Position). mark_told f p set words) (reached_shows f fine calls) ∙ marks_told _ _ set words s r (standing-legal P calls) (standing_depth_lem P calls);
    opens = reached-opens f fine calls;
    tells = reached-told f fine calls;
    stays = reached_stays f fine calls;
  }
