use Prim.Native.Nat.{◌<◌}
use borrow.Author.Rules.{rules}
use lib.Bits.{bit_and, and_lt}
use lib.ListN.{get_or}
use mathlib.Core.Path.{sym, ap, ◌∙◌}
use native.Mathlib.Omega.{arith}
use Rattle.mask.proofs.Chains.{took_lt}
use Rattle.solver_arrays.specs.Arrays.{common_in}
use Rattle.solver_arrays.proofs.RowLaws.{common_step, common_end}
use Rattle.rule_narrow.specs.Narrow.{common_to_all}
use Rattle.rule_narrow.proofs.PureLaws.{common_next, stop_within, none_left, pure_stated}
use Rattle.rule_narrow.proofs.pure_values.Goals as goal

pub loop-j-init : goal.loop-j-init
loop-j-init c =
    let a = c.args in
    let e = ap (λ s. s.left) c.into_iter-j-iterator.ensures.into_iter_gives ∙ c.members_of-j-items.ensures ∙ c.neighbours.ensures in
    (omega (arith, c.type_inv.w a.x), sym (ap (λ m. bit_and (get_or a.w.now a.x 0) (common_to_all a.arrays.now a.x a.w.now m)) e))

pub offset_bounds-w-j : goal.offset_bounds-w-j
offset_bounds-w-j c = let l = took_lt c.in-Some.ensures.steps in search rules

pub bounds-w-j : goal.bounds-w-j
bounds-w-j c = let l = took_lt c.in-Some.ensures.steps in search rules

pub loop-b-init : goal.loop-b-init
loop-b-init c =
    let e = ap (λ s. s.left) c.into_iter-b-iterator.ensures.into_iter_gives ∙ c.members_of-b-items.ensures in
    (c.loop-j.invariant.0, sym (ap (λ m. bit_and c.loop-j.out (common_in c.args.arrays.now c.in-Some.j m c.args.x)) e))

pub row-out-requires : goal.row-out-requires
row-out-requires c =
    let l = took_lt c.in-Some.ensures.steps in
    let k = took_lt c.in-Some-b.ensures.steps in
    search rules

pub loop-b-preserved : goal.loop-b-preserved
loop-b-preserved c =
    let r : c.row-out.result < 65536 = omega arith in
    let k = c.in-Some-b.ensures.steps in
    let a = c.loop-b.invariant in
    (and_lt 16 _ _ a.0 r, common_step _ _ _ _ k.fits k.some _ _ _ _ _ a.0 r k.low c.row-out.ensures k.left a.1)

pub returns-then-out-eq0 : goal.returns-then-out-eq0
returns-then-out-eq0 c = λ P S.
    let r : c.row-out.result < 65536 = omega arith in
    let t = c.in-Some.ensures.steps in
    let k = c.in-Some-b.ensures.steps in
    let a = c.loop-j.invariant in
    let b = c.loop-b.invariant in
    stop_within _ _ _ _ _ _ _ _ a.0 t.fits t.some t.low _ (common_step _ _ _ _ k.fits k.some _ _ _ _ _ b.0 r k.low c.row-out.ensures k.left b.1) c.if-out-eq0.true a.1
    ∙ pure_stated P _ _ S _ c.requires.0 _ (omega (arith, c.type_inv.w c.args.x))

pub loop-j-preserved : goal.loop-j-preserved
loop-j-preserved c =
    let t = c.in-Some.ensures.steps in
    let a = c.loop-j.invariant in
    let b = c.loop-b.invariant in
    (b.0, common_next _ _ _ _ _ _ _ _ _ a.0 t.fits t.some t.low (common_end _ _ _ _ _ _ c.in-None-b.ensures.steps.0 b.0 b.1) t.left a.1)

pub returns : goal.returns
returns c = λ P S. none_left _ _ _ _ _ _ c.loop-j.invariant.0 c.in-None.ensures.steps.0 c.loop-j.invariant.1 ∙ pure_stated P _ _ S _ c.requires.0 _ (omega (arith, c.type_inv.w c.args.x))
