use mathlib.Core.Path.{◌≡◌, refl, ap, ◌∙◌}
use native.Mathlib.Numerals.{add-one}
use native.Mathlib.Omega.{arith}
use Rattle.file_layout.specs.Layout.{body_at, ternary_at}
use Rattle.file_lookup.specs.Ternary.{body_record, body_from}
use Rattle.file_lookup.proofs.ternary.body_from.Goals as goal

pub loop-init : goal.loop-init
unfolding ternary_at
loop-init c = refl

pub invariant_of-r : goal.invariant_of-r
invariant_of-r c = record { near = omega (arith, c.loop.invariant, c.requires c.loop.counter (omega arith)) }

pub loop-preserved : goal.loop-preserved
unfolding ternary_at
loop-preserved c = rw add-one (omega (arith, c.loop.invariant, c.body.ensures.0 ∙ ap (body_at c.args.f.now) c.loop.invariant))

pub overflow_add-result : goal.overflow_add-result
overflow_add-result c = omega (arith, c.loop.invariant, c.requires c.loop.counter (omega arith))

pub invariant_of-r-2 : goal.invariant_of-r-2
invariant_of-r-2 c = record { near = omega (arith, c.loop.invariant, c.requires c.loop.counter (omega arith)) }

pub returns : goal.returns
unfolding body_from body_record
returns c =
    let e : c.loop.place ≡ ternary_at c.args.f.now c.args.q c.args.number = c.loop.invariant ∙ ap (ternary_at c.args.f.now c.args.q) (omega arith) in
    rw (c.body-2.ensures.0, e) refl
