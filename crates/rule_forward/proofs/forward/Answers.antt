use lib.Dec.{T}
use lib.ListN.{length-set}
use lib.Seq.{get_or-set_other}
use mathlib.Core.Path.{◌∙◌, subst}
use native.Mathlib.Omega.{arith}
use Rattle.mask.specs.Mask.{bit}
use Rattle.rule_forward.proofs.RuleLaws.{forward_said}
use Rattle.rule_forward.proofs.StepLaws.{later_in}
use Rattle.rule_forward.proofs.forward.Goals as goal

pub check_each-requires : goal.check_each-requires
check_each-requires c =
    let a = c.args in
    let p = c.requires in
    let e = length-set a.w.now a.x c.single.result in
    (omega arith, p.1, omega arith, λ k t. later_in _ _ _ a.arrays.now.most k (subst (λ z. T (bit z k)) c.later-m.ensures t))

pub returns : goal.returns
returns c =
    let p = c.requires in
    let a = c.args in
    let r = c.check_each.ensures in (
      λ P st. forward_said P _ _ st _ _ p.0 p.1 _ (λ k. omega (arith, c.slice_known-1.given k)) p.2 p.3 _ _ _ _ _
          c.later-m.ensures c.single.ensures c.reason-q.ensures r.0 r.1,
      λ k l z b. r.2 k l b ∙ get_or-set_other a.w.now a.x k c.single.result 0 z,
    )
