use mathlib.Core.Path.{sym, ◌∙◌}
use Rattle.mask.proofs.Chains.{took_lt}
use Rattle.rule_forward.proofs.StepLaws.{losing_none, losing-found, losing_on}
use Rattle.rule_forward.proofs.steps.losing_from.Goals as goal

pub failing_from-requires : goal.failing_from-requires
failing_from-requires c = let p = c.requires in (p.0, took_lt c.in-Some.ensures.steps, p.1, p.2)

pub returns-in-Some-failing_from : goal.returns-in-Some-failing_from
returns-in-Some-failing_from c =
    let k = c.in-Some.ensures.steps in losing-found _ _ _ _ _ _ _ c.loop-value.invariant k.fits k.some _ k.low _ c.in-Some-failing_from.ensures

pub loop-value-preserved : goal.loop-value-preserved
loop-value-preserved c =
    let k = c.in-Some.ensures.steps in
    losing_on _ _ _ _ _ _ _ c.loop-value.invariant k.fits k.some _ k.low (sym c.in_default.is ∙ c.failing_from.ensures) _ k.left

pub returns : goal.returns
returns c = losing_none _ _ _ _ _ _ _ c.loop-value.invariant c.in-None.ensures.steps.0
