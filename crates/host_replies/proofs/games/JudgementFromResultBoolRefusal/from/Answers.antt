use Rattle.host_replies.proofs.ReplyLaws.{judgement}
use Rattle.host_replies.proofs.games.JudgementFromResultBoolRefusal.from.Goals as goal

pub returns : goal.returns
returns c = rw (c.from-a.ensures, c.unwrap_or.ensures) (judgement c.args.answer)
