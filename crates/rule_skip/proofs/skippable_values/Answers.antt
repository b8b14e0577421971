use mathlib.Core.Path.{sym, ◌∙◌}
use Rattle.rule_skip.proofs.SkipLaws.{skips_left, skips_none, skips_empty}
use Rattle.rule_skip.proofs.skippable_values.Goals.{else-out-ne0-via-then-out-ne0+else-boxes_fit, else-out-ne0-via-else-out-ne0}
use Rattle.rule_skip.proofs.skippable_values.Goals as goal

pub returns-then-boxes_fit : goal.returns-then-boxes_fit
returns-then-boxes_fit c = λ P S small.
    skips_left P _ _ S _ c.requires.0 _ small _ c.members_above-later.ensures c.args.m _ c.values_left-out.ensures
    (sym c.boxes_fit.ensures ∙ c.if-boxes_fit.true)

pub returns-else-out-ne0 : goal.returns-else-out-ne0
returns-else-out-ne0 c = λ P S small. elim c.else-out-ne0.branch [
  | else-out-ne0-via-then-out-ne0+else-boxes_fit w ↦
      skips_none P _ _ S _ c.requires.0 _ small _ c.members_above-later.ensures c.args.m (sym w.boxes_fit.ensures ∙ w.if-boxes_fit.false)
  | else-out-ne0-via-else-out-ne0 w ↦
      skips_empty P _ _ S _ c.requires.0 _ small _ c.members_above-later.ensures c.args.m _ c.values_left-out.ensures w.if-out-ne0.false
]
