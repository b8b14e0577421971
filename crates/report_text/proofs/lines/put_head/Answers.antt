use Rattle.buffer.proofs.PutLaws.{put_more, put_last}
use Rattle.report_text.specs.Text.{head_text}
use Rattle.report_text.proofs.lines.put_head.Goals as goal

pub returns : goal.returns
unfolding head_text
returns c = put_more _ c.put_line.ensures (put_more _ c.put_line-2.ensures (put_last c.put_line-3.ensures))
