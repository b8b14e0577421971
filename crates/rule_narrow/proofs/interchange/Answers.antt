use borrow.Author.Rules.{rules}
use mathlib.Core.Path.{◌∙◌}
use Rattle.mask.proofs.Chains.{serves_members, all_members}
use Rattle.rule_narrow.specs.Narrow.{same_row, interchange_in}
use Rattle.rule_narrow.proofs.interchange.Goals as goal

pub all-requires-clause-callable : goal.all-requires-clause-callable
all-requires-clause-callable c = serves_members 32 (λ s. s.left) _ c.members_of.ensures (λ x q k. search rules) (λ x l t. search rules)

pub returns : goal.returns
unfolding interchange_in
returns c =
    let a = c.args in
    all_members 32 (λ s. s.left) _ _ (same_row a.arrays.now a.x a.w.now a.a a.b) c.members_of.result _ c.all.result _
    (c.members_of.ensures ∙ c.neighbours.ensures) c.all.ensures.ran (λ x l t b q k. search rules)
