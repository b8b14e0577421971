use mathlib.Core.Path.{ap, ◌∙◌}
use Rattle.host_replies.specs.Replies.{written_of}
use Rattle.host.proofs.kb_group.Goals as goal

pub returns : goal.returns
returns c = record { value = c.from.ensures ∙ ap written_of c.write_group.ensures.result_value; buf_after = c.write_group.ensures.buf_after }
