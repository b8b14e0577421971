use mathlib.Core.Path.{refl}
use Rattle.rule_set.specs.RuleSet.{is_rule_set}
use Rattle.rule_set.proofs.is_rule_set.Goals as goal

pub returns : goal.returns
unfolding is_rule_set
returns c = refl
