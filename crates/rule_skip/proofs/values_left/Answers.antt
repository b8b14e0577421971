use Prim.Native.Nat.{◌<◌}
use borrow.Author.Rules.{rules}
use lib.Bits.{and_lt}
use native.Mathlib.Omega.{arith}
use Rattle.mask.proofs.Chains.{took_lt}
use Rattle.rule_skip.proofs.BoxLaws.{left-next, left_end}
use Rattle.rule_skip.proofs.values_left.Goals as goal

pub left_by-out-requires : goal.left_by-out-requires
left_by-out-requires c = let l = took_lt c.in-Some.ensures.steps in search rules

pub loop-j-preserved : goal.loop-j-preserved
loop-j-preserved c =
    let a = c.loop-j.invariant in
    let t = c.in-Some.ensures.steps in
    let r : c.left_by-out.result < 65536 = omega arith in
    (and_lt 16 _ _ a.0 r, left-next _ _ _ _ _ _ _ _ _ _ a.0 t.fits t.some t.low c.left_by-out.ensures t.left a.1)

pub returns : goal.returns
returns c = left_end _ _ _ _ _ _ _ c.loop-j.invariant.0 c.in-None.ensures.steps.0 c.loop-j.invariant.1
