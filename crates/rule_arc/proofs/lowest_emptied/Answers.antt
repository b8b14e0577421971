use borrow.Author.Rules.{rules}
use mathlib.Core.Path.{ap, ◌∙◌}
use native.Mathlib.Omega.{arith}
use Rattle.mask.proofs.Chains.{serves_members}
use Rattle.mask.specs.Found.{found}
use Rattle.rule_arc.specs.Loss.{emptied_in}
use Rattle.mask.proofs.Found.{find_first, cut_fits}
use Rattle.rule_arc.proofs.LossSteps.{emptied_first}
use Rattle.rule_arc.proofs.lowest_emptied.Goals as goal

pub find-requires-clause-callable : goal.find-requires-clause-callable
find-requires-clause-callable c = serves_members 32 (λ s. s.left) _ c.members_of.ensures (λ x q k. search rules) (λ x l t. search rules)

pub returns : goal.returns
returns c =
    let a = c.args in
    let A = a.arrays.now in
    find_first 32 (λ s. s.left) _ _ (emptied_in A.universal a.w.now) c.members_of.result _ c.find.result _ A.n
    c.members_of.ensures (cut_fits A.n a.touched _ A.most (omega arith) c.everyone.ensures) c.find.ensures.ran (λ x l t b q k. search rules)
    ∙ ap (found A.n) (emptied_first A.n A.universal a.touched _ a.w.now c.everyone.ensures c.requires.1)
