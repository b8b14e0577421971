use borrow.Author.Rules.{rules}
use native.Mathlib.Omega.{arith}
use Rattle.rule_arc.proofs.ArcLaws.{arced, emptied_touched}
use Rattle.rule_arc.proofs.arc.Goals as goal

pub loss_in-requires : goal.loss_in-requires
loss_in-requires c =
    let p = c.requires in
    (search rules, emptied_touched _ _ _ _ c.args.w.now _ c.args.arrays.now.most p.2 c.remove_dead-touched.ensures.1)

pub returns : goal.returns
returns c =
    λ P st. arced P _ _ _ _ _ (search rules) (λ k. omega (arith, c.slice_known-1.given k)) _ _ c.remove_dead-touched.ensures.1 _ st c.requires.1 c.remove_dead-touched.ensures.0 c.loss_in.ensures.0 c.loss_in.ensures.1
