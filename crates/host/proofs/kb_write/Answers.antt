use mathlib.Core.Path.{ap, ◌∙◌}
use Rattle.host_replies.specs.Replies.{written_of}
use Rattle.host.proofs.TextLaws.{told-in_call}
use Rattle.host.proofs.WideSet.{byte-told, byte_left}
use Rattle.host.proofs.kb_write.Goals as goal

pub returns : goal.returns
returns c = let e = c.write-written.ensures in
    let s = c.set_handed.ensures in
    record {
      value = c.from.ensures ∙ ap written_of (told-in_call _ _ c.map_err.ensures.cases ∙ e.result_value ∙ rw s (byte-told _ _ _ _ _ _ _ _ _));
      buf_after = e.buf_after ∙ rw s (byte_left _ _ _ _ _ _ _ _ _);
    }
