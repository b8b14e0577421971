use mathlib.Core.Path.{◌≡◌, refl, ap, ◌∙◌}
use Prim.Native.Nat.{ℕ}
use native.Mathlib.Omega.{arith}
use Rattle.game.specs.Lists.{list_of, spread}
use Rattle.theory.proofs.SpreadLaws.{listed_next}
use Rattle.group_labels.specs.Labels.{own_labels}
use Rattle.group_labels.proofs.merging.own_labels.Goals as goal

pub loop-i-init : goal.loop-i-init
unfolding spread list_of
loop-i-init c = refl

pub loop-i-preserved : goal.loop-i-preserved
loop-i-preserved c = listed_next (λ i. i) _ _ _ c.loop-i-test.true c.loop-i.invariant refl

pub returns : goal.returns
unfolding spread list_of own_labels
returns c =
    let e : c.loop-i.i ≡ 32 = omega arith in
    c.loop-i.invariant ∙ ap (λ (k : ℕ). spread (list_of k (λ i. i))) e
