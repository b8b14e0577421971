use Rattle.search_steps.proofs.EnterLaws.{leaves_none, leaves_used, leaves_off}
use Rattle.search_steps.proofs.untried_next.Goals as goal

pub returns-then-m-eq0 : goal.returns-then-m-eq0
returns-then-m-eq0 c = leaves_none _ _ _ _ _ _ _ _ c.untried_after-m.ensures c.if-m-eq0.true

pub returns-then-uses : goal.returns-then-uses
returns-then-uses c =
    leaves_used _ _ _ _ _ _ _ _ c.untried_after-m.ensures _ c.uses.ensures c.if-uses.true _ _ c.skippable_values.ensures c.untried_after.ensures

pub returns-else-uses : goal.returns-else-uses
returns-else-uses c =
    leaves_off _ _ _ _ _ _ _ _ c.untried_after-m.ensures _ c.uses.ensures c.if-uses.false
