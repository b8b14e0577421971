use native.Mathlib.Omega.{arith}
use borrow.Author.Rules.{rules}
use Rattle.rule_lend.proofs.LendLaws.{value_at_lem, no_value}
use Rattle.rule_lend.proofs.is_value.Goals as goal

pub returns-then-x-list : goal.returns-then-x-list
returns-then-x-list c = value_at_lem _ _ _ _ (omega arith) c.contains.ensures

pub returns-else-x-list : goal.returns-else-x-list
returns-else-x-list c = no_value _ _ _ _ (search rules) c.if-x-list.either
