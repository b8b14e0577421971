use Prim.Native.Nat.{◌<◌}
use mathlib.Core.Path.{◌≡◌, refl, sym, ap, ap₂, ◌∙◌}
use mathlib.Core.Bool.{◌&&◌, and_comm}
use native.Mathlib.Numerals.{add-one}
use native.Mathlib.Omega.{arith}
use borrow.Author.Rules.{rules}
use Rattle.mask.specs.Range.{each}
use Rattle.refusal.proofs.Chain.{stops, goes, need_fine}
use Rattle.file_layout.specs.Numbers.{row_fits, rows_fit, constraint_fits}
use Rattle.file_layout.proofs.NumberLaws.{order_out}
use Rattle.file_layout.proofs.numbers.constraint_fits.Goals as goal
use Rattle.file_layout.proofs.numbers.constraint_fits.Goals.{In_ok-needed}

ordered : (g : _) (c : In_ok-needed g) → (c.args.i < c.args.j) × (c.args.j < c.args.n)
ordered g c = order_out _ _ _ (sym c.in_order.ensures ∙ need_fine _ _ (sym c.needed.ensures ∙ c.in_ok-needed.was))

pub returns-in_err-needed : goal.returns-in_err-needed
unfolding constraint_fits
returns-in_err-needed g c = λ d r D R.
    (search rules) ∙ stops _ _ (cc) c.in_err-needed.was

pub pair_of-requires : goal.pair_of-requires
pair_of-requires g c = let o = ordered g (goal.at.pair_of-requires g c).In_ok-needed in let h = c.requires.few in omega arith

pub returns-in_err-needed-2 : goal.returns-in_err-needed-2
unfolding constraint_fits
returns-in_err-needed-2 g c = λ d r D R.
    goes _ _ (cc) c.in_ok-needed.was ((search rules) ∙ stops _ _ (rw (← c.pair_of.ensures) c.needed-2.ensures) c.in_err-needed-2.was)

pub domain-di-requires : goal.domain-di-requires
domain-di-requires g c = let o = ordered g (goal.at.domain-di-requires g c).In_ok-needed in c.requires.domains _ (omega arith)

pub domain-dj-requires : goal.domain-dj-requires
domain-dj-requires g c = let o = ordered g (goal.at.domain-dj-requires g c).In_ok-needed in c.requires.domains _ (omega arith)

pub loop-a-init : goal.loop-a-init
unfolding rows_fit each
loop-a-init g c = λ r R. refl

pub loop-a-preserved : goal.loop-a-preserved
unfolding rows_fit each
loop-a-preserved g c = λ r R. rw add-one
    (and_comm c.loop-a.fits c.row_fits-fits.result ∙ ap₂ ◌&&◌ (c.row_fits-fits.ensures ∙ ap (row_fits _ _ _) (R _ _ c.loop-a-test.true c.row.ensures)) (c.loop-a.invariant r R))

pub returns : goal.returns
unfolding constraint_fits
returns g c = λ d r D R.
    let o = ordered g (goal.at.returns g c).In_ok-needed in
    let di : c.domain-di.result ≡ d c.args.i = D _ _ (omega arith) c.domain-di.ensures in
    let dj : c.domain-dj.result ≡ d c.args.j = D _ _ (omega arith) c.domain-dj.ensures in
    let all : c.loop-a.a ≡ 16 = omega arith in
    goes _ _ (cc) c.in_ok-needed.was
    (goes _ _ (rw (← c.pair_of.ensures) c.needed-2.ensures) c.in_ok-needed-2.was
    (rw (← di, ← dj, ← all, ← c.loop-a.invariant r R) c.needed-3.ensures))
