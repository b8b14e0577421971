use mathlib.Core.Path.{ap₂, ◌∙◌}
use Rattle.host_replies.specs.Replies.{named_of}
use Rattle.host.proofs.kb_pure.Goals as goal

pub returns : goal.returns
returns c = c.from.ensures ∙ ap₂ named_of c.pure.ensures.told c.pure.ensures.shown
