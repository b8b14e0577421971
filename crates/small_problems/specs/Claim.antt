-- What it means that the rows of a table hold.
use Rattle.std.specs.Prelude.{ℕ, ◌≤◌, ◌<◌, ◌≡◌, List, [], ◌∷◌, get_or}
use Rattle.rule_set.specs.RuleSet.{greatest_set}
use Rattle.refusal.specs.Chain.{Fine}
use Rattle.file_reader.specs.Reading.{verdict_of}
use Rattle.file_decoder.specs.FileProblem.{ternary_of}
use Rattle.game.specs.Calls.{Call}
use Rattle.judging.specs.Tests.{room_for}
use Rattle.session.specs.History.{reached_by}
use Rattle.small_problems.specs.Questions.{answer}
use Rattle.small_problems.specs.Table.{Line, ◌gives◌, Stage, after, Row}

module _ (f : List ℕ) (set words : ℕ) where
  -- Each question has its answer, in the position that these calls reach.
  unfoldable pub LinesHold : List Call → List Line → Type 0
  LinesHold cs [] = Unit {0}
  LinesHold cs ((q gives t) ∷ ls) = (answer f set words (reached_by f cs) q ≡ t) × LinesHold cs ls

  unfoldable pub StagesHold : List Stage → Type 0
  StagesHold [] = Unit {0}
  StagesHold (after cs ls ∷ ss) = LinesHold cs ls × StagesHold ss

-- A row holds: its file is accepted, and each question has its answer, under every rule set and in every room that is large enough.
pub record RowHolds (r : Row) : Type 0 where
  pub bytes : (k : ℕ) → get_or r.file k 0 < 256
  pub fine : verdict_of r.file ≡ Fine
  pub answered : (set words : ℕ) → set ≤ greatest_set → room_for (ternary_of r.file fine) ≤ words → StagesHold r.file set words r.stages

unfoldable pub RowsHold : List Row → Type 0
RowsHold [] = Unit {0}
RowsHold (r ∷ rs) = RowHolds r × RowsHold rs
