use native.Mathlib.Omega.{arith}
use Rattle.rule_skip.proofs.SkipLaws.{untried_is}
use Rattle.rule_skip.proofs.untried_after.Goals as goal

pub returns : goal.returns
returns c = untried_is _ _ _ _ _ (omega arith) c.members_above.ensures c.difference.ensures
