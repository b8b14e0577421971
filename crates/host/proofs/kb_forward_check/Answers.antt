use mathlib.Core.Path.{ap, ◌∙◌}
use Rattle.host_replies.specs.Replies.{checked_of}
use Rattle.host.proofs.kb_forward_check.Goals as goal

pub returns : goal.returns
returns c = record { value = c.from.ensures ∙ ap checked_of c.forward_check.ensures.result_value; list_after = c.forward_check.ensures.list_after }
