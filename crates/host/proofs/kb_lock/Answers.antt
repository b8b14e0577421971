use mathlib.Core.Path.{refl, ◌∙◌}
use Rattle.host.proofs.kb_lock.Goals as goal

pub returns : goal.returns
returns c = c.moved_shown.ensures ∙ rw (c.lock.ensures.answer_value, c.lock.ensures.position_value) refl
