use native.Mathlib.Omega.{arith}
use Rattle.rule_forward.proofs.StepLaws.{later_is}
use Rattle.rule_forward.proofs.steps.later.Goals as goal

pub returns : goal.returns
returns c = later_is _ _ _ _ _ c.args.arrays.now.most (omega arith) c.later_neighbours.ensures c.everyone.ensures
