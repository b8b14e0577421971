use Rattle.buffer.proofs.PutLaws.{put_more, put_last}
use Rattle.report_text.specs.Text.{number_line}
use Rattle.report_text.proofs.lines.put_line.Goals as goal

pub returns : goal.returns
unfolding number_line
returns c = put_more _ c.put.ensures (put_more _ c.put_number.ensures (put_last c.put-2.ensures))
