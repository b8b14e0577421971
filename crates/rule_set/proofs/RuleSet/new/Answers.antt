use mathlib.Core.Path.{sym, ◌∙◌}
use native.Mathlib.Omega.{arith}
use Rattle.rule_set.proofs.RuleSetLaws.{set_most, told-set, told_none}
use Rattle.rule_set.proofs.RuleSet.new.Goals as goal

pub overflow_cast-result : goal.overflow_cast-result
overflow_cast-result c = omega (arith, set_most _ (sym c.is_rule_set.ensures ∙ c.if-is_rule_set.true))

pub returns-then-is_rule_set : goal.returns-then-is_rule_set
returns-then-is_rule_set c = sym (told-set _ (sym c.is_rule_set.ensures ∙ c.if-is_rule_set.true))

pub returns-else-is_rule_set : goal.returns-else-is_rule_set
returns-else-is_rule_set c = sym (told_none _ (sym c.is_rule_set.ensures ∙ c.if-is_rule_set.false))
