use Rattle.buffer.proofs.PutLaws.{put_more, put_last}
use Rattle.report_text.specs.Text.{mark_of, option_line}
use Rattle.report_text.proofs.lines.put_option_line.Goals as goal

pub returns : goal.returns
unfolding option_line mark_of
returns c = put_more _ c.put.ensures (put_more _ c.put_number.ensures (put_more _ c.put-2.ensures (put_more _ c.put_word.ensures (put_last c.put-3.ensures))))
