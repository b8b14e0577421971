use mathlib.Core.Path.{ap₂, ◌∙◌}
use Rattle.refusal.specs.Chain.{◌then◌}
use Rattle.refusal.proofs.Chain.{and_is}
use Rattle.rule_lend.specs.Lend.{variable_test}
use Rattle.rule_lend.proofs.variable_test.Goals as goal

pub returns : goal.returns
unfolding variable_test
returns c = c.and.ensures ∙ and_is _ _ ∙ ap₂ ◌then◌ c.list_test-s.ensures c.needed-t.ensures
