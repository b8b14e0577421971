use Rattle.buffer.proofs.PutLaws.{put_more, put_last}
use Rattle.report_text.specs.Text.{side_of, next_line}
use Rattle.report_text.proofs.lines.put_next.Goals as goal

pub returns : goal.returns
unfolding next_line side_of
returns c = put_more _ c.put.ensures (put_more _ c.put_number.ensures (put_more _ c.put-2.ensures (put_more _ c.put_word.ensures (put_last c.put-3.ensures))))
