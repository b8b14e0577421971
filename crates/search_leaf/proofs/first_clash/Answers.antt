use borrow.Author.Rules.{rules}
use mathlib.Core.Bool.{◌&&◌}
use mathlib.Core.Path.{ap, ◌∙◌}
use Rattle.mask.specs.Range.{first}
use Rattle.mask.specs.Mask.{bit}
use Rattle.mask.specs.Found.{found}
use Rattle.mask.proofs.Chains.{serves_members}
use Rattle.mask.proofs.Found.{find_first}
use Rattle.search_leaf.specs.Leaf.{clashes, first_clash}
use Rattle.search_leaf.proofs.first_clash.Goals as goal

pub find-requires-clause-callable : goal.find-requires-clause-callable
find-requires-clause-callable c = serves_members 32 (λ s. s.left) _ c.members_of.ensures (λ x q k. search rules) (λ x l t. search rules)

pub returns : goal.returns
unfolding first_clash
returns c =
    let a = c.args in
    find_first 32 (λ s. s.left) _ _ (clashes a.arrays.now a.w.now a.x) c.members_of.result _ c.find.result _ 32
    c.members_of.ensures c.later_neighbours.type_inv c.find.ensures.ran (λ x l t b q k. search rules)
    ∙ ap (λ m. found 32 (first 32 (λ y. bit m y && clashes a.arrays.now a.w.now a.x y))) c.later_neighbours.ensures
