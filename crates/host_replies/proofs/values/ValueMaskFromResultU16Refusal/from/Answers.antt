use native.Mathlib.Omega.{arith}
use Rattle.host_replies.proofs.ReplyLaws.{value_mask}
use Rattle.host_replies.proofs.values.ValueMaskFromResultU16Refusal.from.Goals as goal

pub returns : goal.returns
returns c = rw c.unwrap_or.ensures (value_mask c.args.answer c.from-a.result c.from-a.ensures _ (omega arith))
