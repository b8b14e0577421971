use Rattle.host_replies.proofs.ReplyLaws.{open_masks}
use Rattle.host_replies.proofs.calls.OpenMasksFromResultOpenedRefusal.from.Goals as goal

pub returns : goal.returns
returns c = rw (c.from-a.ensures, c.unwrap_or.ensures) (open_masks c.args.answer)
