use mathlib.Core.Path.{sym, ◌∙◌}
use native.Mathlib.Omega.{arith}
use Rattle.rule_set.proofs.RuleSetLaws.{uses_none, uses_past, uses_is}
use Rattle.rule_set.proofs.RuleSet.uses.Goals as goal

pub returns-then-rule-lt1 : goal.returns-then-rule-lt1
returns-then-rule-lt1 c = sym (uses_none _ _ c.if-rule-lt1.true)

pub returns-then-rule-gt8 : goal.returns-then-rule-gt8
returns-then-rule-gt8 c = sym (uses_past _ _ (omega arith) c.if-rule-gt8.true)

pub returns : goal.returns
returns c = c.contains.ensures ∙ uses_is _ _ c.if-rule-lt1.false
