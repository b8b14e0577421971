use mathlib.Core.Path.{ap, ◌∙◌}
use Prim.Native.Nat.{ℕ}
use native.Mathlib.Omega.{arith}
use Rattle.problem_writer.specs.Listing.{tied_in}
use Rattle.group.specs.Groups.{merged}
use Rattle.group_labels.specs.Labels.{own_labels}
use Rattle.group_labels.proofs.MergeLaws.{merged_next}
use Rattle.group_labels.proofs.merging.labels.Goals as goal

pub loop-y-init : goal.loop-y-init
unfolding merged
loop-y-init c = c.own_labels-out.ensures

pub loop-y-preserved : goal.loop-y-preserved
loop-y-preserved c = merged_next _ _ _ _ _ c.loop-y.invariant c.merge_earlier.ensures

pub returns : goal.returns
returns c = c.loop-y.invariant ∙ ap (λ (k : ℕ). merged (tied_in c.args.arrays.now) own_labels k) (omega arith)
