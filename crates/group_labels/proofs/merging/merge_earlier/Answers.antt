use mathlib.Core.Path.{◌≡◌, refl, ◌∙◌}
use native.Mathlib.Omega.{arith}
use Rattle.group.specs.Groups.{merged_with}
use Rattle.group_labels.proofs.MergeLaws.{with_next}
use Rattle.group_labels.proofs.merging.merge_earlier.Goals as goal
use Rattle.group_labels.proofs.merging.merge_earlier.Goals.{then-tied, else-tied}

pub loop-x-init : goal.loop-x-init
unfolding merged_with
loop-x-init c = refl

pub loop-x-preserved : goal.loop-x-preserved
loop-x-preserved c =
    with_next _ _ _ _ _ _ _ c.tied.ensures c.loop-x.invariant
    (elim c.if-tied.branch [
      | then-tied w ↦ rw w.if-tied.true (w.labels-is ∙ w.merge.ensures)
      | else-tied w ↦ rw w.if-tied.false w.labels-is
    ])

pub returns : goal.returns
returns c = let e : c.loop-x.x ≡ c.args.y = omega arith in rw e at c.loop-x.invariant
