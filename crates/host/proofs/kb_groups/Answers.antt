use mathlib.Core.Path.{ap₂, ◌∙◌}
use Rattle.host_replies.specs.Replies.{group_list_of}
use Rattle.host.proofs.kb_groups.Goals as goal

pub returns : goal.returns
returns c = c.from.ensures ∙ ap₂ group_list_of c.groups.ensures.told c.groups.ensures.shown
