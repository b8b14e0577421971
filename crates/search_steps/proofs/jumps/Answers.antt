use mathlib.Core.Path.{◌∙◌}
use Rattle.search_steps.proofs.StepLaws.{jump_on, jump_off}
use Rattle.search_steps.proofs.jumps.Goals as goal

pub returns-then-uses : goal.returns-then-uses
returns-then-uses c =
    jump_on _ _ _ _ c.uses.ensures c.if-uses.true c.contains.ensures

pub returns-else-uses : goal.returns-else-uses
returns-else-uses c =
    c.if-uses.false ∙ jump_off _ _ _ c.uses.ensures c.if-uses.false
