use borrow.Author.Rules.{rules}
use Rattle.mask.proofs.Chains.{serves_members, any_members}
use Rattle.rule_narrow.specs.Narrow.{interchange_in, some_interchange}
use Rattle.rule_narrow.proofs.some_interchange.Goals as goal

pub any-requires-clause-callable : goal.any-requires-clause-callable
any-requires-clause-callable c = serves_members 16 (λ s. s.left) c.args.m c.members_of.ensures (λ x q k. search rules) (λ x l t. search rules)

pub returns : goal.returns
unfolding some_interchange
returns c =
    let a = c.args in
    any_members 16 (λ s. s.left) _ _ (λ b. interchange_in a.arrays.now a.x a.w.now b a.a) c.members_of.result _ c.any.result a.m
    c.members_of.ensures c.any.ensures.ran (λ x l t b q k. search rules)
