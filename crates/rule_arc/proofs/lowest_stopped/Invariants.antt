use Rattle.rule_arc.proofs.LossSteps.{Stopping}
use Rattle.rule_arc.proofs.lowest_stopped.Given as goal

abbrev pub invariant-loop-x : goal.invariant-loop-x
invariant-loop-x l = Stopping l.arrays l.touched l.w l.arrays.n l.x-iterator.left
