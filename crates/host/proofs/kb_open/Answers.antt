use mathlib.Core.Path.{refl, ◌∙◌}
use Rattle.host.proofs.kb_open.Goals as goal

pub returns : goal.returns
returns c = c.from.ensures ∙ rw (c.open_values.ensures.result_value, c.open_values.ensures.masks_value.0, c.open_values.ensures.masks_value.1) refl
