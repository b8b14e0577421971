use native.Mathlib.Omega.{arith}
use Rattle.mask.proofs.Bits.{shl_one}
use Rattle.file_writer.proofs.tests.universal_fits.Goals as goal

pub returns : goal.returns
returns c = rw (shl_one 64 c.args.x.n (omega arith))
