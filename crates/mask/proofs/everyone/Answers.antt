use native.Mathlib.Omega.{arith}
use lib.Pow.{pow_pos}
use Rattle.mask.proofs.Bits.{shl_one}
use Rattle.mask.proofs.Members.{ones_lt, bit-ones}
use Rattle.mask.proofs.everyone.Goals as goal

pub overflow_sub-result : goal.overflow_sub-result
overflow_sub-result c = rw (shl_one 64 c.args.n (omega arith)) (pow_pos c.args.n)

pub overflow_cast-result : goal.overflow_cast-result
overflow_cast-result c = rw (shl_one 64 c.args.n (omega arith)) (record { fits = ones_lt 32 c.args.n c.requires })

pub returns : goal.returns
returns c = rw (shl_one 64 c.args.n (omega arith)) (bit-ones c.args.n)
