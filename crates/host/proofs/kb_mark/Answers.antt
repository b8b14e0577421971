use mathlib.Core.Path.{refl, ap, ◌∙◌}
use Rattle.host_replies.specs.Replies.{marks_of}
use Rattle.host.proofs.kb_mark.Goals as goal

pub returns : goal.returns
returns c = c.from.ensures ∙ ap marks_of (c.mark.ensures.result_value ∙ rw c.unpacked-p.ensures refl)
