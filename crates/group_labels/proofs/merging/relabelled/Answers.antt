use mathlib.Core.Path.{sym}
use Rattle.group_theory.proofs.Labels.{relabelled_high, relabelled_else}
use Rattle.group_labels.proofs.merging.relabelled.Goals as goal

pub returns-then-label-high : goal.returns-then-label-high
returns-then-label-high c = let a = c.args in sym (relabelled_high a.low a.high a.label c.if-label-high.true)

pub returns-else-label-high : goal.returns-else-label-high
returns-else-label-high c = let a = c.args in sym (relabelled_else a.low a.high a.label c.if-label-high.false)
