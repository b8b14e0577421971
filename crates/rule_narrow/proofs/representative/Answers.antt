use mathlib.Core.Path.{sym, ◌∙◌}
use Rattle.rule_narrow.proofs.InterchangeLaws.{representative_none, representative_one}
use Rattle.rule_narrow.proofs.representative.Goals as goal

pub returns-then-some_interchange : goal.returns-then-some_interchange
returns-then-some_interchange c = representative_none _ _ _ _ _ c.requires.1 c.single-one.ensures (sym c.some_interchange.ensures ∙ c.if-some_interchange.true)

pub returns-else-some_interchange : goal.returns-else-some_interchange
returns-else-some_interchange c = representative_one _ _ _ _ _ c.requires.1 c.single-one.ensures (sym c.some_interchange.ensures ∙ c.if-some_interchange.false)
