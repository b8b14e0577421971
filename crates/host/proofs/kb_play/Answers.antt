use mathlib.Core.Path.{refl, ◌∙◌}
use Rattle.host.proofs.kb_play.Goals as goal

pub returns : goal.returns
returns c = c.moved_shown.ensures ∙ rw (c.play.ensures.answer_value, c.play.ensures.position_value) refl
