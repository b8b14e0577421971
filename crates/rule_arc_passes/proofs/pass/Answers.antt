use native.Mathlib.Omega.{arith}
use Rattle.rule_arc_passes.proofs.StepLaws.{pass-start, pass_step, pass_end}
use Rattle.rule_arc_passes.proofs.pass.Goals as goal

pub loop-x-init : goal.loop-x-init
loop-x-init c = pass-start _ _ _ _

pub loop-x-preserved : goal.loop-x-preserved
loop-x-preserved c =
    let f = c.look_from-lost.ensures in pass_step _ _ _ _ _ _ _ c.loop-x.invariant _ _ _ c.loop-x-test.true f.0 f.1 c.note-dirty.ensures

pub returns : goal.returns
returns c = pass_end _ _ _ _ _ _ _ c.loop-x.invariant (omega arith)
