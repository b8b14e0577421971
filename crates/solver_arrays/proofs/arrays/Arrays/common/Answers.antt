use borrow.Author.Rules.{rules}
use Prim.Native.Nat.{◌<◌}
use lib.Bits.{and_lt}
use mathlib.Core.Path.{sym}
use native.Mathlib.Omega.{arith}
use Rattle.mask.proofs.Chains.{took_lt}
use Rattle.solver_arrays.proofs.RowLaws.{and_full, common_step, common_end, common_lt}
use Rattle.solver_arrays.proofs.arrays.Arrays.common.Goals as goal

pub loop-a-init : goal.loop-a-init
loop-a-init c =
    (search rules, rw (c.into_iter-a-iterator.ensures.into_iter_gives, c.members_of-a-items.ensures) (sym (and_full _ (common_lt _ _ _ _))))

pub row-out-requires : goal.row-out-requires
row-out-requires c = let l = took_lt c.in-Some.ensures.steps in search rules

pub loop-a-preserved : goal.loop-a-preserved
loop-a-preserved c =
    let r : c.row-out.result < 65536 = omega arith in
    let k = c.in-Some.ensures.steps in
    let a = c.loop-a.invariant in
    (and_lt 16 _ _ a.0 r, common_step _ _ _ _ k.fits k.some _ _ _ _ _ a.0 r k.low c.row-out.ensures k.left a.1)

pub returns : goal.returns
returns c = let a = c.loop-a.invariant in common_end _ _ _ _ _ _ c.in-None.ensures.steps.0 a.0 a.1
