use Rattle.host_replies.proofs.ReplyLaws.{looked_ahead}
use Rattle.host_replies.proofs.looks.LookedAheadFromResultOptionAheadRefusal.from.Goals as goal

pub returns : goal.returns
returns c = rw (c.from-a.ensures, c.is_some.ensures, c.unwrap_or-named.ensures) (looked_ahead c.args.answer c.unwrap_or_default-h.result (rw c.unwrap_or-named.ensures at c.unwrap_or_default-h.ensures))
