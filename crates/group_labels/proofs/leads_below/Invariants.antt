use mathlib.Core.Path.{◌≡◌}
use Rattle.mask.specs.Range.{count}
use Rattle.group_labels.specs.Labels.{leads_in}
use Rattle.group_labels.proofs.leads_below.Given as goal

abbrev pub invariant-loop-i : goal.invariant-loop-i
invariant-loop-i l = l.out ≡ count l.i (leads_in l.labels)
