-- "The judging program uses the file's `RS`, else USUAL."
use Rattle.std.specs.Prelude.{ℕ, List, get_or, Option}
use Rattle.rule_set.specs.RuleSet.{usual_set}
use Rattle.file_reader.specs.Reading.{rule_numbers}

-- Of the rule sets told, none or one.
unfoldable pub set_used : List ℕ → ℕ
set_used told = get_or told 0 usual_set

-- Of a file's.
unfoldable pub rules_used : Option ℕ → ℕ
rules_used rules = set_used (rule_numbers rules)
