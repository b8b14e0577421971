use Rattle.mask.proofs.Bits.{zeros_first}
use Rattle.mask.proofs.widths.U64Mask.zeros.Goals as goal

pub returns : goal.returns
returns c = zeros_first 64 c.args.self
