use Rattle.host_replies.proofs.ReplyLaws.{ruled_list}
use Rattle.host_replies.proofs.arcs.RuledListFromResultBoolRefusal.from.Goals as goal

pub returns : goal.returns
returns c = rw (c.from-a.ensures, c.unwrap_or.ensures) (ruled_list c.args.answer)
