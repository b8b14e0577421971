use native.Mathlib.Omega.{arith}
use Rattle.rule_arc_passes.proofs.StepLaws.{passes-step, passes_clean, passes_none}
use Rattle.rule_arc_passes.proofs.TouchLaws.{touched_pass}
use Rattle.rule_arc_passes.specs.Passes.{removed_in}
use Rattle.rule_arc_passes.proofs.remove_dead.Goals as goal

pub loop-preserved : goal.loop-preserved
loop-preserved c =
    let i = c.loop.invariant in
    (passes-step _ _ _ _ _ _ _ i.0 _ _ _ (omega arith) c.if-dirty-eq0.false c.pass-dirty.ensures, touched_pass _ _ _ _ _ _ _ c.args.w.now _ _ c.pass-dirty.ensures i.1)

pub returns-then-dirty-eq0 : goal.returns-then-dirty-eq0
unfolding removed_in
returns-then-dirty-eq0 c = (passes_clean _ _ _ _ _ _ _ c.loop.invariant.0 c.if-dirty-eq0.true, c.loop.invariant.1)

pub returns : goal.returns
unfolding removed_in
returns c = (passes_none _ _ _ _ _ _ _ c.loop.invariant.0 (omega arith), c.loop.invariant.1)
