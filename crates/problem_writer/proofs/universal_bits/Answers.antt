use native.Mathlib.Omega.{arith}
use Rattle.mask.proofs.Found.{cut_is}
use Rattle.problem_writer.proofs.universal_bits.Goals as goal

pub returns : goal.returns
returns c = cut_is _ _ _ c.args.arrays.now.most (omega arith) c.everyone.ensures
