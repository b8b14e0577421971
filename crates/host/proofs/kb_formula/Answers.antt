use mathlib.Core.Path.{ap, ◌∙◌}
use Rattle.host_replies.specs.Replies.{written_of}
use Rattle.host.proofs.kb_formula.Goals as goal

pub returns : goal.returns
returns c = record { value = c.from.ensures ∙ ap written_of c.write_formula.ensures.result_value; buf_after = c.write_formula.ensures.buf_after }
