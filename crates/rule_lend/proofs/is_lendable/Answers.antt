use mathlib.Core.Path.{refl}
use borrow.Author.Rules.{rules}
use Rattle.mask.proofs.Below.{all_below}
use Rattle.rule_lend.specs.Lend.{fits_at}
use Rattle.rule_lend.proofs.LendLaws.{lendable_by, not-lendable}
use Rattle.rule_lend.proofs.is_lendable.Goals as goal

pub returns-then-list-arrays : goal.returns-then-list-arrays
returns-then-list-arrays c =
    let a = c.args in
    lendable_by _ _ _ _ c.if-list-arrays.true (all_below a.arrays.now.n (fits_at a.arrays.now.domains a.list.now) c.all.ensures.ran refl (λ x b q k. search rules))

pub returns-else-list-arrays : goal.returns-else-list-arrays
returns-else-list-arrays c = not-lendable _ _ _ _ c.if-list-arrays.false (search rules)
