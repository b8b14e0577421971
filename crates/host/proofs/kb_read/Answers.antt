use mathlib.Core.Path.{refl, ◌∙◌}
use Rattle.host.proofs.kb_read.Goals as goal

pub returns : goal.returns
returns c = c.from.ensures ∙ rw (c.read.ensures.0, c.read.ensures.1) refl
