use borrow.Author.Rules.{rules}
use mathlib.Core.Path.{refl}
use Rattle.mask.proofs.Below.{all_below}
use Rattle.rule_skip.specs.Skip.{goes_above, boxes_fit}
use Rattle.rule_skip.proofs.boxes_fit.Goals as goal

pub returns : goal.returns
unfolding boxes_fit
returns c =
    let a = c.args in
    all_below a.arrays.now.n (goes_above a.arrays.now a.later a.i a.w.now) c.all.ensures.ran refl (λ x b q k. search rules)
