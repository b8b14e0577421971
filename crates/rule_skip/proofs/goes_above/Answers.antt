use borrow.Author.Rules.{rules}
use mathlib.Core.Path.{sym, ◌∙◌}
use Rattle.mask.proofs.Chains.{serves_members, all_members}
use Rattle.rule_skip.specs.Skip.{box_goes}
use Rattle.rule_skip.proofs.BoxLaws.{goes-start}
use Rattle.rule_skip.proofs.goes_above.Goals as goal

pub all-requires-clause-callable : goal.all-requires-clause-callable
all-requires-clause-callable c = serves_members 32 (λ s. s.left) _ c.members_of.ensures (λ x q k. search rules) (λ x l t. search rules)

pub returns : goal.returns
returns c =
    let a = c.args in
    all_members 32 (λ s. s.left) _ _ (box_goes a.arrays.now a.later a.i a.w.now a.j c.box_of-m.result) c.members_of.result _ c.all.result _
    c.members_of.ensures c.all.ensures.ran (λ x l t b q k. search rules)
    ∙ sym (goes-start _ _ _ _ _ c.requires.2 _ _ c.box_of-m.ensures c.tested_above.ensures)
