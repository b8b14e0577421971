use mathlib.Core.Path.{ap, ◌∙◌}
use Rattle.host_replies.specs.Replies.{found_of}
use Rattle.host.proofs.kb_look_up.Goals as goal

pub returns : goal.returns
returns c = c.from.ensures ∙ ap found_of c.look_up.ensures
