use mathlib.Core.Path.{sym, ◌∙◌}
use native.Mathlib.Omega.{arith}
use Rattle.formula.specs.Text.{is_digit}
use Rattle.formula_index.proofs.NumberLaws.{passed_none, passed_more, passed-stop, passed_all}
use Rattle.formula_index.proofs.reading.number_at.Goals as goal

pub loop-k-init : goal.loop-k-init
loop-k-init c = passed_none _ _

pub returns-then-not-is_ascii_digit-clause-value_value : goal.returns-then-not-is_ascii_digit-clause-value_value
unfolding is_digit
returns-then-not-is_ascii_digit-clause-value_value c =
    passed-stop c.loop-k.invariant c.loop-k-test.true c.byte_at-b.ensures (sym c.is_ascii_digit.ensures.value ∙ c.if-not-is_ascii_digit.true)

pub loop-k-preserved : goal.loop-k-preserved
unfolding is_digit
loop-k-preserved c = passed_more c.loop-k.invariant c.byte_at-b.ensures (sym c.is_ascii_digit.ensures.value ∙ c.if-not-is_ascii_digit.false)

pub returns-clause-value_value : goal.returns-clause-value_value
returns-clause-value_value c = passed_all c.loop-k.invariant (omega arith)
