use Rattle.mask.proofs.Bits.{shl_one}
use Rattle.mask.proofs.widths.U64Mask.only.Goals as goal

pub returns : goal.returns
returns c = shl_one 64 c.args.k c.requires
