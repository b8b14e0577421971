use mathlib.Core.Path.{sym, ◌∙◌}
use Rattle.rule_skip.proofs.BoxLaws.{box_none, box_later, box-leaf}
use Rattle.rule_skip.proofs.box_of.Goals as goal

pub returns-then-j-i : goal.returns-then-j-i
returns-then-j-i c = box_none _ _ _ _ c.if-j-i.true

pub returns-then-contains : goal.returns-then-contains
returns-then-contains c = box_later _ _ _ _ c.if-j-i.false (sym c.contains.ensures ∙ c.if-contains.true)

pub returns-else-contains : goal.returns-else-contains
returns-else-contains c = c.single.ensures ∙ box-leaf _ _ _ _ c.if-j-i.false (sym c.contains.ensures ∙ c.if-contains.false)
