use mathlib.Core.Path.{◌≡◌}
use Rattle.rule_forward.specs.OneValue.{first_losing}
use Rattle.rule_forward.proofs.steps.losing_from.Given as goal

abbrev pub invariant-loop-value : goal.invariant-loop-value
invariant-loop-value l = first_losing l.arrays l.x l.arrays.n l.m l.fn.d l.w ≡ first_losing l.arrays l.x l.arrays.n l.m l.value-iterator.left l.w
