use mathlib.Core.Path.{ap, ◌∙◌}
use Rattle.host_replies.specs.Replies.{written_of}
use Rattle.host.proofs.TextLaws.{told-in_call}
use Rattle.host.proofs.kb_report.Goals as goal

pub returns : goal.returns
returns c = record {
  value = c.from.ensures ∙ ap written_of (told-in_call _ _ c.map_err.ensures.cases ∙ c.text_of.ensures.result_value);
  buf_after = c.text_of.ensures.buf_after;
}
