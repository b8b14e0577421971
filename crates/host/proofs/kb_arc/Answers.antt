use mathlib.Core.Path.{ap, ◌∙◌}
use Rattle.host_replies.specs.Replies.{ruled_of}
use Rattle.host.proofs.kb_arc.Goals as goal

pub returns : goal.returns
returns c = record { value = c.from.ensures ∙ ap ruled_of c.arc.ensures.result_value; list_after = c.arc.ensures.list_after }
