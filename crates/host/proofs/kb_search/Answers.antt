use mathlib.Core.Path.{ap, ◌∙◌}
use Rattle.host_replies.specs.Replies.{searched_of}
use Rattle.host.proofs.kb_search.Goals as goal

pub returns : goal.returns
returns c = c.from.ensures ∙ ap searched_of c.search.ensures.result_value
