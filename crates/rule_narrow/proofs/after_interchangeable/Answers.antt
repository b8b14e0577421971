use mathlib.Core.Path.{◌∙◌}
use Rattle.rule_narrow.proofs.NextLaws.{leaves-interchangeable, leaves_all}
use Rattle.rule_narrow.proofs.after_interchangeable.Goals as goal

pub returns-then-used : goal.returns-then-used
returns-then-used c = λ P S. c.interchangeable_values.ensures P S ∙ leaves-interchangeable _ _ c.requires.0 _ P _ c.if-used.true

pub returns-else-used : goal.returns-else-used
returns-else-used c = λ P S. leaves_all _ _ c.requires.0 _ _ _ c.if-used.false
