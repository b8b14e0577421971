use mathlib.Core.Path.{◌≡◌}
use Rattle.group_labels.proofs.MergeLaws.{labels_after}
use Rattle.group_labels.proofs.merging.merge.Given as goal

abbrev pub invariant-loop-i : goal.invariant-loop-i
invariant-loop-i l = l.labels ≡ labels_after l.initial.labels l.low l.high l.i
