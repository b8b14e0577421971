use borrow.Author.Rules.{rules}
use Rattle.buffer.proofs.PutLaws.{put_more, put_last, put-start}
use Rattle.report_text.specs.Text.{reply_text, text_of}
use Rattle.report_text.proofs.render_reply.Goals as goal

pub returns : goal.returns
unfolding text_of reply_text
returns c =
    let q = put_more _ c.put_head.ensures (put_more _ c.put_answer.ensures (put_more _ c.put_next.ensures (put_last c.put_options.ensures))) in
    let p = put-start c.new-t.ensures.place c.new-t.ensures.buffer c.requires q (search rules) in
    record { value = p.0; out_after = p.1 }
