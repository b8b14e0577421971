-- What a call tells, as the fields of a reply to a C host: the kind (0 a finished reply, 1 refused by number, 2 a file's refusal with number
-- and place), the number, the place and the values; a field that says nothing is 0.
use Rattle.std.specs.Prelude.{ℕ, min, cond, List, length, drop, get_or}
use Rattle.refusal.specs.Told.{Told, replied, refused, refused_at}
use Rattle.file_reader.specs.Used.{set_used}
use Rattle.position.specs.declared.Position.{Position}
use Rattle.rule_narrow.specs.declared.names.PureNames.{PureNames}
use Rattle.judging.specs.Searching.{Findings}
use Rattle.host_replies.specs.declared.files.ReadFile.{ReadFile}
use Rattle.host_replies.specs.declared.files.FoundRows.{FoundRows}
use Rattle.host_replies.specs.declared.files.FoundBody.{FoundBody}
use Rattle.host_replies.specs.declared.files.WrittenBytes.{WrittenBytes}
use Rattle.host_replies.specs.declared.calls.CallAnswer.{CallAnswer}
use Rattle.host_replies.specs.declared.calls.MovedPosition.{MovedPosition}
use Rattle.host_replies.specs.declared.calls.OpenMasks.{OpenMasks}
use Rattle.host_replies.specs.declared.formula_judgements.FormulaJudgement.{FormulaJudgement}
use Rattle.host_replies.specs.declared.games.Judgement.{Judgement}
use Rattle.host_replies.specs.declared.games.Marks.{Marks}
use Rattle.host_replies.specs.declared.games.ReplayedCalls.{ReplayedCalls}
use Rattle.host_replies.specs.declared.games.SearchFindings.{SearchFindings}
use Rattle.host_replies.specs.declared.groups.GroupList.{GroupList}
use Rattle.host_replies.specs.declared.arcs.RuledList.{RuledList}
use Rattle.host_replies.specs.declared.checks.CheckedList.{CheckedList}
use Rattle.host_replies.specs.declared.looks.LookedAhead.{LookedAhead}
use Rattle.host_replies.specs.declared.names.NamedValues.{NamedValues}
use Rattle.host_replies.specs.declared.values.ValueMask.{ValueMask}

unfoldable pub kind_of : Told → ℕ
kind_of (replied l) = 0
kind_of (refused e) = 1
kind_of (refused_at e p) = 2

unfoldable pub number_of : Told → ℕ
number_of (replied l) = 0
number_of (refused e) = e
number_of (refused_at e p) = e

unfoldable pub place_of : Told → ℕ
place_of (replied l) = 0
place_of (refused e) = 0
place_of (refused_at e p) = p

-- Value k of a finished reply.
unfoldable pub value_of : Told → ℕ → ℕ
value_of (replied l) k = get_or l k 0
value_of (refused e) k = 0
value_of (refused_at e p) k = 0

-- How many values a finished reply has from number k on.
unfoldable pub count_from : ℕ → Told → ℕ
count_from k (replied l) = length (drop k l)
count_from k (refused e) = 0
count_from k (refused_at e p) = 0

-- The rule set to judge by. Reading's values are n, m, t, the universal bits and the rule set, if the file names one.
unfoldable pub rules_in : Told → ℕ
rules_in (replied l) = set_used (drop 4 l)
rules_in (refused e) = 0
rules_in (refused_at e p) = 0

unfoldable pub read_file_of : Told → List ℕ → ReadFile
read_file_of r domains =
    record { kind = kind_of r; number = number_of r; place = place_of r; n = value_of r 0; m = value_of r 1; t = value_of r 2; universal = value_of r 3; given = count_from 4 r; rules = rules_in r; domains = domains }

-- A look-up's one value is the place of the rows; where no constraint joins the pair it has none.
unfoldable pub found_of : Told → FoundRows
found_of t = record { kind = kind_of t; number = number_of t; place = place_of t; found = count_from 0 t; rows = value_of t 0 }

-- The values of a look-up by place are where the body begins and how long it is; where there is no such record it has none.
unfoldable pub found_body_of : Told → FoundBody
found_body_of t =
    record { kind = kind_of t; number = number_of t; place = place_of t; found = min 1 (count_from 0 t); body = value_of t 0; length = value_of t 1 }

unfoldable pub written_of : Told → WrittenBytes
written_of t = record { kind = kind_of t; number = number_of t; place = place_of t; length = value_of t 0 }

unfoldable pub formula_judgement_of : Told → FormulaJudgement
formula_judgement_of t = record { kind = kind_of t; number = number_of t; place = place_of t; won = value_of t 0; length = value_of t 1 }

unfoldable pub group_list_of : Told → List ℕ → GroupList
group_list_of t group = record { kind = kind_of t; number = number_of t; place = place_of t; count = value_of t 0; group = group }

unfoldable pub answer_of : Told → CallAnswer
answer_of t = record { kind = kind_of t; number = number_of t; place = place_of t }

unfoldable pub moved_of : Told → Position → MovedPosition
moved_of t p = record { answer = answer_of t; position = p }

unfoldable pub opened_of : Told → List ℕ → List ℕ → OpenMasks
opened_of t masks counts = record { kind = kind_of t; number = number_of t; place = place_of t; masks = masks; counts = counts }

unfoldable pub judgement_of : Told → Judgement
judgement_of t = record { kind = kind_of t; number = number_of t; place = place_of t; won = value_of t 0 }

unfoldable pub marks_of : Told → Marks
marks_of t = record { kind = kind_of t; number = number_of t; place = place_of t; winning = value_of t 0; domain = value_of t 1 }

unfoldable pub replayed_of : Marks → OpenMasks → ReplayedCalls
replayed_of m o = record { marks = m; opened = o }

unfoldable pub searched_of : Findings → SearchFindings
searched_of s =
    let t = s.told in
    record { kind = kind_of t; number = number_of t; place = place_of t; won = value_of t 0; loss = cond s.loss 1 0; conflict = s.conflict; list = s.list; leaf = s.leaf }

unfoldable pub ruled_of : Told → RuledList
ruled_of t = record { kind = kind_of t; number = number_of t; place = place_of t; lost = value_of t 0 }

-- A loss of rule 2 names a variable, one of rule 3 a value and a variable; behind no loss no value stands.
unfoldable pub checked_of : Told → CheckedList
checked_of t = record { kind = kind_of t; number = number_of t; place = place_of t; lost = value_of t 0; variable = value_of t 1 }

unfoldable pub looked_of : Told → LookedAhead
looked_of t = record { kind = kind_of t; number = number_of t; place = place_of t; lost = value_of t 0; value = value_of t 1; variable = value_of t 2 }

-- Rule 4's masks and names stand in fields of their own, zero on a refusal.
unfoldable pub named_of : Told → PureNames → NamedValues
named_of t r =
    record { kind = kind_of t; number = number_of t; place = place_of t; pure = r.pure; impure = r.impure; variables = r.variables; values = r.values }

unfoldable pub values_of : Told → ValueMask
values_of t = record { kind = kind_of t; number = number_of t; place = place_of t; values = value_of t 0 }
