use Rattle.mask.proofs.Bits.{shl_one}
use Rattle.mask.proofs.widths.U32Mask.only.Goals as goal

pub returns : goal.returns
returns c = shl_one 32 c.args.k c.requires
