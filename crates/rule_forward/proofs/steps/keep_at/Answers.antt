use mathlib.Core.Path.{sym, ◌∙◌}
use native.Mathlib.Omega.{arith}
use Rattle.rule_forward.proofs.StepLaws.{checked_same, checked_new}
use Rattle.rule_forward.proofs.steps.keep_at.Goals as goal

pub returns-then-k-m : goal.returns-then-k-m
returns-then-k-m c =
    let e = c.left_of-k.ensures in
    c.add_reason.ensures ∙ rw e (checked_new _ _ _ _ _ c.requires.0 (λ s. c.if-k-m.true (e ∙ s)))

pub returns-else-k-m : goal.returns-else-k-m
returns-else-k-m c = checked_same _ (λ k. omega (arith, c.slice_known-1.given k)) _ _ _ _ (sym c.left_of-k.ensures ∙ c.if-k-m.false)
