use Prim.Native.Nat.{◌<◌}
use borrow.Author.Rules.{rules}
use lib.Bits.{or_lt, bit_and}
use mathlib.Core.Path.{refl, sym, ap, ◌∙◌}
use native.Mathlib.Omega.{arith}
use Rattle.mask.proofs.Members.{low_lt, rest_lt}
use Rattle.solver_arrays.proofs.RowLaws.{supported_step, supported_end, supported_lt}
use Rattle.rule_arc_passes.proofs.StepLaws.{and_joined}
use Rattle.rule_arc_passes.proofs.supported_of.Goals as goal

pub row-out-requires : goal.row-out-requires
row-out-requires c = let l = low_lt 16 _ c.loop-left.invariant.1 c.loop-left-test.true in search rules

pub returns-then-wanted-out : goal.returns-then-wanted-out
returns-then-wanted-out c =
    let r : c.row-out.result < 65536 = omega arith in
    let w = c.args.wanted in
    let i = c.loop-left.invariant in
    let e = supported_step _ _ _ _ i.1 c.loop-left-test.true _ _ _ _ _ i.0 r c.lowest-a.ensures c.row-out.ensures refl i.2 in
    sym (ap (bit_and w) e ∙ and_joined w _ _ (omega arith) (or_lt 16 _ _ i.0 r) (supported_lt _ _ _ _) c.if-wanted-out.true)

pub loop-left-smaller : goal.loop-left-smaller
loop-left-smaller c = rw c.rest_of-left.ensures (rest_lt _ c.loop-left-test.true)

pub loop-left-preserved : goal.loop-left-preserved
loop-left-preserved c =
    let r : c.row-out.result < 65536 = omega arith in
    let i = c.loop-left.invariant in
    (or_lt 16 _ _ i.0 r, search rules, supported_step _ _ _ _ i.1 c.loop-left-test.true _ _ _ _ _ i.0 r c.lowest-a.ensures c.row-out.ensures c.rest_of-left.ensures i.2)

pub returns : goal.returns
returns c = ap (bit_and c.args.wanted) (supported_end _ _ _ _ _ _ c.loop-left-test.false c.loop-left.invariant.0 c.loop-left.invariant.2)
