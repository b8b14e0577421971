use mathlib.Core.Path.{refl, ap, ◌∙◌}
use native.Mathlib.Omega.{arith}
use Rattle.mask.specs.Mask.{bit, mask_of}
use Rattle.group_arrays.specs.Members.{old_in}
use Rattle.group_arrays.specs.Selected.{renumbered}
use Rattle.group_arrays.proofs.MembersLaws.{mask_then, mask_else}
use Rattle.group_arrays.proofs.renumbered.renumbered.Goals as goal
use Rattle.group_arrays.proofs.renumbered.renumbered.Goals.{then-contains, else-contains}

pub loop-t-init : goal.loop-t-init
unfolding mask_of
loop-t-init c = refl

pub loop-t-preserved : goal.loop-t-preserved
loop-t-preserved c =
    let a = c.args in
    elim c.if-contains.branch [
      | then-contains w ↦ mask_then a.m.now a.mask c.loop-t.t c.old.ensures.0 c.contains.ensures c.loop-t.invariant w.if-contains.true w.single-out.ensures w.out-is
      | else-contains w ↦ mask_else a.m.now a.mask c.loop-t.t c.old.ensures.0 c.contains.ensures c.loop-t.invariant w.if-contains.false w.out-is
    ]

pub returns : goal.returns
unfolding renumbered
returns c = c.loop-t.invariant ∙ ap (λ k. mask_of k (λ t. bit c.args.mask (old_in c.args.m.now t))) (omega arith)
