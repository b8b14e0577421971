use Rattle.host_replies.proofs.ReplyLaws.{checked_list}
use Rattle.host_replies.proofs.checks.CheckedListFromResultOptionUsizeRefusal.from.Goals as goal

pub returns : goal.returns
returns c = rw (c.from-a.ensures, c.is_some.ensures, c.unwrap_or.ensures, c.unwrap_or-named.ensures) (checked_list c.args.answer)
