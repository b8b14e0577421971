use Prim.Native.Nat.{◌+◌}
use mathlib.Core.Path.{refl}
use native.Mathlib.Omega.{arith}
use Rattle.file_bytes.specs.Bytes.{size_in}
use Rattle.file_bytes.proofs.records.size_in.Goals as goal

pub returns : goal.returns
unfolding size_in
returns c = (refl, omega (arith, c.type_inv.xs (c.args.p + 3)))
