use Rattle.mask.proofs.Bits.{ones-count}
use Rattle.mask.proofs.count_of.Goals as goal

pub returns : goal.returns
returns c = ones-count 16 c.args.m c.ranges.m.fits
