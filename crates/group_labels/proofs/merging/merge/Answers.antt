use mathlib.Core.Path.{refl}
use native.Mathlib.Omega.{arith}
use Rattle.group_labels.proofs.MergeLaws.{after_next, after_all}
use Rattle.group_labels.proofs.merging.merge.Goals as goal

pub loop-i-init : goal.loop-i-init
loop-i-init c = refl

pub loop-i-preserved : goal.loop-i-preserved
loop-i-preserved c = after_next _ _ c.min-low.result c.max-high.result _ _ (omega arith) c.loop-i.invariant c.relabelled.ensures

pub returns : goal.returns
returns c = after_all _ _ _ _ _ _ _ (omega arith) c.min-low.ensures c.max-high.ensures c.loop-i.invariant
