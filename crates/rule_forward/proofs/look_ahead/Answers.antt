use lib.Dec.{T}
use mathlib.Core.Path.{subst}
use native.Mathlib.Omega.{arith}
use Rattle.mask.specs.Mask.{bit}
use Rattle.rule_forward.proofs.RuleLaws.{ahead_said}
use Rattle.rule_forward.proofs.StepLaws.{later_in}
use Rattle.rule_forward.proofs.look_ahead.Goals as goal

pub losing_from-requires : goal.losing_from-requires
losing_from-requires c =
    let p = c.requires in
    (omega arith, p.1, λ k t. later_in _ _ _ c.args.arrays.now.most k (subst (λ z. T (bit z k)) c.later-m.ensures t))

pub returns : goal.returns
returns c =
    λ P st. let p = c.requires in
    ahead_said P _ _ st _ p.0 _ (λ k. omega (arith, c.shared_slice_known-1.given k)) p.2 _ _ _
    c.later-m.ensures c.tried-d.ensures c.losing_from.ensures
