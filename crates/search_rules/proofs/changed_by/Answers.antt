use Rattle.search_rules.proofs.NarrowLaws.{outside_none, outside_checked, outside_play}
use Rattle.search_rules.proofs.changed_by.Goals as goal

pub returns-then-c-eq0 : goal.returns-then-c-eq0
returns-then-c-eq0 c = outside_none _ _ _ _ _ _ c.everyone.ensures

pub returns-then-on : goal.returns-then-on
returns-then-on c = outside_checked _ _ _ _ _ c.if-c-eq0.false c.if-c-d.false c.if-on.true

pub returns-else-on : goal.returns-else-on
returns-else-on c = outside_play _ _ _ _ _ c.if-c-eq0.false c.if-c-d.false _ c.single.ensures
