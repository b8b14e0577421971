use mathlib.Core.Path.{refl, ap, ◌∙◌}
use Prim.Native.Nat.{ℕ, ◌<◌}
use borrow.Author.Rules.{rules}
use native.Mathlib.Omega.{arith}
use Rattle.mask.specs.Range.{count}
use Rattle.mask.proofs.Range.{count-bound}
use Rattle.game.specs.Lists.{list_of, spread}
use Rattle.theory.proofs.SpreadLaws.{listed_next}
use Rattle.group_labels.specs.Labels.{leads_in}
use Rattle.group_labels.proofs.LabelLaws.{place_in, grouped_by}
use Rattle.group_labels.proofs.groups_in.Goals as goal

pub loop-i-init : goal.loop-i-init
unfolding spread list_of
loop-i-init c = refl

pub overflow_cast-group : goal.overflow_cast-group
overflow_cast-group c = omega (arith, c.min.ensures, c.leads_below.ensures, count-bound c.min.result (leads_in c.labels-labels.result))

pub loop-i-preserved : goal.loop-i-preserved
unfolding place_in
loop-i-preserved c =
    let b : c.loop-i.i < 32 = search rules in
    listed_next (place_in c.labels-labels.result) _ _ _ b c.loop-i.invariant
    (c.leads_below.ensures ∙ ap (λ (k : ℕ). count k (leads_in c.labels-labels.result)) c.min.ensures)

pub returns : goal.returns
returns c = λ P h.
    grouped_by P _ h _ _ c.labels-labels.ensures c.leads_below-count.ensures
    (c.loop-i.invariant ∙ ap (λ (k : ℕ). spread (list_of k (place_in c.labels-labels.result))) (omega arith))
