use mathlib.Core.Path.{◌≡◌}
use Rattle.problem_writer.specs.Listing.{tied_in}
use Rattle.group.specs.Groups.{merged}
use Rattle.group_labels.specs.Labels.{own_labels}
use Rattle.group_labels.proofs.merging.labels.Given as goal

abbrev pub invariant-loop-y : goal.invariant-loop-y
invariant-loop-y l = l.out ≡ merged (tied_in l.arrays) own_labels l.y
