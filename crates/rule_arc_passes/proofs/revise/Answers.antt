use Rattle.rule_arc_passes.proofs.StepLaws.{revise_cut, revise_kept}
use Rattle.rule_arc_passes.proofs.revise.Goals as goal

pub returns-then-new-old : goal.returns-then-new-old
returns-then-new-old c = revise_cut _ _ _ _ _ c.left_by-new.ensures _ _ _ c.if-new-old.true c.reason.ensures c.cause-c.ensures c.add_reason.ensures

pub returns-else-new-old : goal.returns-else-new-old
returns-else-new-old c = revise_kept _ _ _ _ _ c.left_by-new.ensures c.if-new-old.false
