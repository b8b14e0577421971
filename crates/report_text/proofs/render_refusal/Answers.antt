use borrow.Author.Rules.{rules}
use Rattle.buffer.proofs.PutLaws.{put_more, put_last, put-start}
use Rattle.report_text.specs.Text.{refused_text, fault_text}
use Rattle.report_text.proofs.render_refusal.Goals as goal

pub returns : goal.returns
unfolding fault_text refused_text
returns c =
    let q = put_more _ c.put.ensures (put_more _ (rw c.from.ensures at c.put_number.ensures) (put_more _ c.put-2.ensures (put_more _ c.put_number-2.ensures (put_last c.put-3.ensures)))) in
    let p = put-start c.new-t.ensures.place c.new-t.ensures.buffer c.requires q (search rules) in
    record { value = p.0; out_after = p.1 }
