use mathlib.Core.Path.{ap, ◌∙◌}
use Rattle.host_replies.specs.Replies.{found_body_of}
use Rattle.host.proofs.kb_look_up_triples.Goals as goal

pub returns : goal.returns
returns c = c.from.ensures ∙ ap found_body_of c.look_up_ternary.ensures
