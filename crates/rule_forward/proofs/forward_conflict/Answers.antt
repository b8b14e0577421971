use native.Mathlib.Omega.{arith}
use Rattle.rule_forward.proofs.RuleLaws.{conflict_is}
use Rattle.rule_forward.proofs.forward_conflict.Goals as goal

pub returns : goal.returns
returns c = λ P st h. conflict_is P _ _ st _ _ h _ _ _ _ (omega arith) (omega arith) (omega arith) c.reason.ensures c.reason-2.ensures c.neighbours.ensures
