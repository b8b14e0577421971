use borrow.Author.Rules.{rules}
use Rattle.mask.proofs.Chains.{serves_members}
use Rattle.mask.proofs.Found.{find_first}
use Rattle.rule_forward.specs.OneValue.{failing, first_failing}
use Rattle.rule_forward.proofs.StepLaws.{fits_below}
use Rattle.rule_forward.proofs.steps.failing_from.Goals as goal

pub find-requires-clause-callable : goal.find-requires-clause-callable
find-requires-clause-callable c = serves_members 32 (λ s. s.left) c.args.m c.members_of.ensures (λ x q k. search rules) (λ x l t. search rules)

pub returns : goal.returns
unfolding first_failing
returns c =
    let a = c.args in
    find_first 32 (λ s. s.left) _ _ (failing a.arrays.now a.x a.a a.w.now) c.members_of.result _ c.find.result a.m a.arrays.now.n c.members_of.ensures
    (fits_below a.arrays.now.n a.m a.arrays.now.most c.ranges.m.fits c.requires.3) c.find.ensures.ran (λ x l t b q k. search rules)
