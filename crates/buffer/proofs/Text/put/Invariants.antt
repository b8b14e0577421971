use lib.ListN.{take}
use Rattle.buffer.specs.Put.{Put}
use Rattle.buffer.proofs.Text.put.Given as goal

abbrev pub invariant-loop-b : goal.invariant-loop-b
invariant-loop-b l = Put l.initial.self (take l.b-index l.text) l.self
