use mathlib.Core.Path.{ap, ◌∙◌}
use Rattle.host_replies.specs.Replies.{marks_of}
use Rattle.host.proofs.kb_mark_in.Goals as goal

pub returns : goal.returns
returns c = record { value = c.from.ensures ∙ ap marks_of c.mark.ensures.result_value; room_after = c.mark.ensures.room_after }
