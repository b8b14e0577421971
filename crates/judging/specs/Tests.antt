-- What is tested before a search, in document 01's order: 8, 23, 12.
use Rattle.std.specs.Prelude.{ℕ, ◌+◌, List, leb}
use Rattle.refusal.specs.declared.reason.Reason.TheVariants.{Rules, Room, Misfit}
use Rattle.refusal.specs.Chain.{Test, ◌then◌, need}
use Rattle.rule_set.specs.RuleSet.{is_rule_set}
use Rattle.game.specs.Ternary.{TernaryProblem}
use Rattle.position.specs.declared.Position.{Position}
use Rattle.position.specs.Position.{fits_in}
use Rattle.search_run.specs.Run.{room_words}

-- "8 Rules: a rule set above 127"; "23 Misfit", over n variables with these masks.
unfoldable pub position_test : ℕ → List ℕ → Position → ℕ → Test
position_test n masks p set = need (is_rule_set set) Rules then need (fits_in p n masks) Misfit

-- "the room counts both", variables and three-way constraints.
abbrev pub room_for : TernaryProblem → ℕ
room_for J = room_words (J.binary.n + J.ternary)

-- "12": a room of fewer words than a search needs.
unfoldable pub room_test : ℕ → ℕ → Test
room_test needed words = need (leb needed words) Room

-- The tests of judging; those behind the rule set's.
unfoldable pub judge_test : ℕ → List ℕ → Position → ℕ → ℕ → ℕ → Test
judge_test n masks p set needed words = position_test n masks p set then room_test needed words

unfoldable pub place_test : ℕ → List ℕ → Position → ℕ → ℕ → Test
place_test n masks p needed words = need (fits_in p n masks) Misfit then room_test needed words
