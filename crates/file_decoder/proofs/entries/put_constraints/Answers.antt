use mathlib.Core.Path.{◌≡◌, refl, ◌∙◌}
use native.Mathlib.Numerals.{add-one}
use native.Mathlib.Omega.{arith}
use Rattle.file_constraints.specs.Constraints.{Whole}
use Rattle.file_decoder.specs.Tables.{near_to, index_to, rows_to}
use Rattle.file_decoder.proofs.entries.put_constraints.Goals as goal

pub loop-t-init : goal.loop-t-init
unfolding near_to index_to rows_to
loop-t-init c = (refl, refl, refl, record { own = refl; n = refl; universal = refl; domains = refl })

pub invariant_of-c : goal.invariant_of-c
unfolding Whole
invariant_of-c c = record { whole = c.requires.whole c.loop-t.t (omega arith) }

pub put_constraint-requires : goal.put_constraint-requires
put_constraint-requires c =
    let h = c.requires in
    let o = h.order c.loop-t.t (omega arith) in (omega (arith, h.few), omega arith, o.1)

pub loop-t-preserved : goal.loop-t-preserved
unfolding near_to index_to rows_to
loop-t-preserved c =
    let e = c.put_constraint.ensures in
    let s = c.loop-t.invariant.3 in
    let z = e.others in
    (rw add-one (cc), rw add-one (cc), rw add-one (cc), record { own = z.own ∙ s.own; n = z.n ∙ s.n; universal = z.universal ∙ s.universal; domains = z.domains ∙ s.domains })

pub returns : goal.returns
returns c = let e : c.loop-t.t ≡ c.args.m = omega arith in record { near_after = cc; index_after = cc; rows_after = cc; others = c.loop-t.invariant.3 }
