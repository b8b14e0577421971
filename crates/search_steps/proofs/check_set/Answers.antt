use Rattle.search_steps.proofs.StepLaws.{own_used, own_unused, own_below}
use Rattle.search_steps.proofs.check_set.Goals as goal
use Rattle.search_steps.proofs.check_set.Goals.{else-first-via-then-first+else-uses, else-first-via-else-first}

pub returns-in-Ok : goal.returns-in-Ok
returns-in-Ok c = rw c.in-Ok.is (own_used _ _ _ _ c.if-first.true c.uses.ensures c.if-uses.true)

pub returns-in-Err : goal.returns-in-Err
returns-in-Err c = rw c.in-Err.is (own_used _ _ _ _ c.if-first.true c.uses.ensures c.if-uses.true)

pub returns-else-first : goal.returns-else-first
returns-else-first c =
    elim c.else-first.branch [
      | else-first-via-then-first+else-uses w ↦ own_unused _ _ _ _ w.if-first.true w.uses.ensures w.if-uses.false
      | else-first-via-else-first w ↦ own_below _ _ _ w.if-first.false
    ]
