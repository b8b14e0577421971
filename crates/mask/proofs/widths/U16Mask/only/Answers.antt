use Rattle.mask.proofs.Bits.{shl_one}
use Rattle.mask.proofs.widths.U16Mask.only.Goals as goal

pub returns : goal.returns
returns c = shl_one 16 c.args.k c.requires
