use mathlib.Core.Path.{refl, ◌∙◌}
use Rattle.host.proofs.kb_take_back.Goals as goal

pub returns : goal.returns
returns c = c.moved_shown.ensures ∙ rw (c.take_back.ensures.answer_value, c.take_back.ensures.position_value) refl
