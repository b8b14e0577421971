use borrow.Author.Rules.{rules}
use lib.ListN.{get_or}
use Rattle.mask.proofs.Chains.{serves_members}
use Rattle.rule_arc.specs.Loss.{bars_in, barrier}
use Rattle.mask.proofs.Found.{find_first}
use Rattle.rule_arc.proofs.first_bar.Goals as goal

pub find-requires-clause-callable : goal.find-requires-clause-callable
find-requires-clause-callable c = serves_members 32 (λ s. s.left) c.args.m c.members_of.ensures (λ x q k. search rules) (λ x l t. search rules)

pub returns : goal.returns
unfolding barrier
returns c =
    let a = c.args in
    find_first 32 (λ s. s.left) _ _ (λ k. bars_in a.arrays.now a.x k (get_or a.w.now a.x 0) (get_or a.w.now k 0)) c.members_of.result _ c.find.result a.m 32
    c.members_of.ensures c.ranges.m.fits c.find.ensures.ran (λ x l t b q k. search rules)
