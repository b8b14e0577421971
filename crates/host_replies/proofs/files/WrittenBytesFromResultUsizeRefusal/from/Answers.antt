use Rattle.host_replies.proofs.ReplyLaws.{written_bytes}
use Rattle.host_replies.proofs.files.WrittenBytesFromResultUsizeRefusal.from.Goals as goal

pub returns : goal.returns
returns c = rw (c.from-a.ensures, c.unwrap_or.ensures) (written_bytes c.args.answer)
