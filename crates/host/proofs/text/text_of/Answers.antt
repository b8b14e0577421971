use mathlib.Core.Path.{refl, ◌∙◌}
use Rattle.host.specs.Text.{text_told, text_left}
use Rattle.host.proofs.TextLaws.{front}
use Rattle.host.proofs.text.text_of.Goals as goal

pub returns : goal.returns
unfolding text_told text_left
returns c =
    let r = c.report_file-k.ensures in
    let e = front _ _ _ _ r.value r.out_after in
    let s = c.fitted.ensures in
    record { result_value = s.result_value ∙ rw e refl; buf_after = s.buf_after ∙ rw e refl }
