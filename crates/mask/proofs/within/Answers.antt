use Rattle.mask.proofs.Masks.{within-each}
use Rattle.mask.proofs.within.Goals as goal

pub returns : goal.returns
returns c = within-each 16 c.args.m c.args.w c.ranges.m.fits
