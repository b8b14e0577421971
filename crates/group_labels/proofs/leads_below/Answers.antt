use mathlib.Core.Path.{refl, ap, ◌∙◌}
use Prim.Native.Nat.{ℕ}
use native.Mathlib.Omega.{arith}
use borrow.Author.Tests.{eq-eqb, ne_eqb}
use Rattle.mask.specs.Range.{count}
use Rattle.mask.proofs.Range.{count-bound}
use Rattle.group_labels.specs.Labels.{leads_in}
use Rattle.group_labels.proofs.MergeLaws.{led_next}
use Rattle.group_labels.proofs.leads_below.Goals as goal
use Rattle.group_labels.proofs.leads_below.Goals.{then-labels-i, else-labels-i}

pub loop-i-init : goal.loop-i-init
unfolding count
loop-i-init c = refl

pub overflow_add-out : goal.overflow_add-out
overflow_add-out c = omega (arith, c.loop-i.invariant, count-bound c.loop-i.i (leads_in c.args.labels.now))

pub loop-i-preserved : goal.loop-i-preserved
unfolding leads_in
loop-i-preserved c =
    led_next _ _ _ _ _ refl c.loop-i.invariant
    (elim c.if-labels-i.branch [
      | then-labels-i w ↦ rw (eq-eqb _ _ w.if-labels-i.true) w.out-is
      | else-labels-i w ↦ rw (ne_eqb _ _ w.if-labels-i.false) (w.out-is ∙ omega arith)
    ])

pub returns : goal.returns
returns c = c.loop-i.invariant ∙ ap (λ (k : ℕ). count k (leads_in c.args.labels.now)) (omega arith)
