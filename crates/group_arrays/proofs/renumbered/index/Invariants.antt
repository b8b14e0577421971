use Rattle.group_arrays.specs.Selected.{index_in}
use Rattle.group_arrays.proofs.MembersLaws.{Filled}
use Rattle.group_arrays.proofs.renumbered.index.Given as goal

abbrev pub invariant-loop-x : goal.invariant-loop-x
invariant-loop-x l = Filled 1024 (index_in l.m l.arrays) l.x l.out
