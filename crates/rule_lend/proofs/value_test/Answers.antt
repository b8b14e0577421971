use mathlib.Core.Bool.{Bool}
use mathlib.Core.Path.{◌≡◌, ap, ◌∙◌}
use borrow.Author.Rules.{rules}
use Rattle.std.specs.Prelude.{Err}
use Rattle.refusal.specs.declared.reason.Reason.TheVariants.{Value}
use Rattle.refusal.specs.Chain.{need}
use Rattle.refusal.proofs.Chain.{stops, goes}
use Rattle.rule_lend.specs.Lend.{value_test}
use Rattle.rule_lend.proofs.value_test.Goals as goal

pub returns-in_err-variable_test : goal.returns-in_err-variable_test
unfolding value_test
returns-in_err-variable_test c =
    let q : c.from_residual.result ≡ Err c.in_err-variable_test.field-0.0 = search rules in
    q ∙ stops _ _ c.variable_test.ensures c.in_err-variable_test.was

pub returns : goal.returns
unfolding value_test
returns c = goes _ _ c.variable_test.ensures c.in_ok-variable_test.was (c.needed.ensures ∙ ap (λ (b : Bool). need b Value) c.is_value.ensures)
