use mathlib.Core.Path.{sym, ◌∙◌}
use native.Mathlib.Omega.{arith}
use Rattle.mask.proofs.Found.{found_some}
use Rattle.rule_arc.proofs.LossSteps.{loss-emptied, loss-stopped, loss_none, stop_below}
use Rattle.rule_arc.proofs.loss_in.Goals as goal

pub reason-requires : goal.reason-requires
reason-requires c = let r = found_some _ _ _ c.in-Some.ensures in (c.requires.0, omega arith)

pub returns-in-Some : goal.returns-in-Some
returns-in-Some c = loss-emptied _ _ _ _ _ _ c.in-Some.ensures c.reason.ensures

pub reason-requires-in-Some-lowest_stopped : goal.reason-requires-in-Some-lowest_stopped
reason-requires-in-Some-lowest_stopped c = let l = stop_below _ _ _ _ _ _ c.in-Some-lowest_stopped.ensures in (c.requires.0, omega arith)

pub reason-requires-in-Some-lowest_stopped-2 : goal.reason-requires-in-Some-lowest_stopped-2
reason-requires-in-Some-lowest_stopped-2 c = let l = stop_below _ _ _ _ _ _ c.in-Some-lowest_stopped.ensures in (c.requires.0, l.1)

pub returns-in-Some-lowest_stopped : goal.returns-in-Some-lowest_stopped
returns-in-Some-lowest_stopped c = loss-stopped _ _ _ _ (sym c.in_default.is ∙ c.lowest_emptied.ensures) _ _ _ _ c.in-Some-lowest_stopped.ensures c.reason-in-Some-lowest_stopped.ensures c.reason-in-Some-lowest_stopped-2.ensures

pub returns : goal.returns
returns c = loss_none _ _ _ _ (sym c.in_default.is ∙ c.lowest_emptied.ensures) (sym c.in_default-lowest_stopped.is ∙ c.lowest_stopped.ensures)
