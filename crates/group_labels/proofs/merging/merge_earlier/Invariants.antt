use mathlib.Core.Path.{◌≡◌}
use Rattle.problem_writer.specs.Listing.{tied_in}
use Rattle.group.specs.Groups.{merged_with}
use Rattle.group_labels.proofs.merging.merge_earlier.Given as goal

abbrev pub invariant-loop-x : goal.invariant-loop-x
invariant-loop-x l = l.labels ≡ merged_with (tied_in l.arrays) l.initial.labels l.y l.x
