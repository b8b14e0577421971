use Rattle.rule_forward.proofs.StepLaws.{Passing}
use Rattle.rule_forward.specs.OneValue.{Unmoved}
use Rattle.rule_forward.proofs.steps.check_each.Given as goal

abbrev pub invariant-loop-j : goal.invariant-loop-j
invariant-loop-j l =
    Passing l.arrays l.x l.a l.arrays.n l.q l.fn.m l.initial.w l.j-iterator.left l.w l.named × Unmoved l.narrowed l.initial.w l.w
