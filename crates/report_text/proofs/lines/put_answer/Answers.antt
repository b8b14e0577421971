use Rattle.buffer.proofs.PutLaws.{put_more, put_last}
use Rattle.report_text.specs.Text.{verdict_text, answer_line}
use Rattle.report_text.proofs.lines.put_answer.Goals as goal

pub returns : goal.returns
unfolding answer_line verdict_text
returns c = put_more _ c.put.ensures (put_more _ c.put_word.ensures (put_last c.put-2.ensures))
