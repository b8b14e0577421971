use mathlib.Core.Path.{ap, ◌∙◌}
use Rattle.host_replies.specs.Replies.{looked_of}
use Rattle.host.proofs.kb_look_ahead.Goals as goal

pub returns : goal.returns
returns c = c.from.ensures ∙ ap looked_of c.look_ahead.ensures
