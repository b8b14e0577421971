use Rattle.host_replies.proofs.ReplyLaws.{found_rows}
use Rattle.host_replies.proofs.files.FoundRowsFromResultOptionUsizeRefusal.from.Goals as goal

pub returns : goal.returns
returns c = rw (c.from-a.ensures, c.is_some.ensures, c.unwrap_or.ensures, c.unwrap_or-rows.ensures) (found_rows c.args.answer)
