use mathlib.Core.Path.{refl, ◌∙◌}
use Rattle.host.proofs.kb_unlock.Goals as goal

pub returns : goal.returns
returns c = c.moved_shown.ensures ∙ rw (c.unlock.ensures.answer_value, c.unlock.ensures.position_value) refl
