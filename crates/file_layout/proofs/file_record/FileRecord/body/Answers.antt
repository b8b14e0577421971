use Prim.Native.Nat.{ℕ, ◌+◌, ◌*◌}
use mathlib.Core.Path.{ap}
use native.Mathlib.Omega.{arith}
use Rattle.file_layout.specs.Layout.{body_at}
use Rattle.file_layout.proofs.file_record.FileRecord.body.Goals as goal

pub returns : goal.returns
unfolding body_at
returns c = (ap (λ (count : ℕ). 4 + 3 * count) c.number.ensures.0, omega (arith, c.number.ensures.1))
