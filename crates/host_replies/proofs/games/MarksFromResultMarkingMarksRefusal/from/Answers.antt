use Rattle.host_replies.proofs.ReplyLaws.{marks}
use Rattle.host_replies.proofs.games.MarksFromResultMarkingMarksRefusal.from.Goals as goal

pub returns : goal.returns
returns c = rw c.from-a.ensures (marks c.args.answer _ c.unwrap_or_default-m.ensures)
