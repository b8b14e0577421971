use native.Mathlib.Omega.{arith}
use Rattle.file_bytes.specs.Bytes.{start_of}
use Rattle.file_bytes.proofs.Numbers.start.Goals as goal

pub returns-in-None : goal.returns-in-None
unfolding start_of
returns-in-None c = (rw c.in-None.is, omega arith)

pub returns-in-Some : goal.returns-in-Some
unfolding start_of
returns-in-Some c = (rw c.in-Some.is, omega arith)
