use mathlib.Core.Path.{◌≡◌}
use Rattle.buffer.specs.Stored.{stored}
use Rattle.file_bytes.specs.Bytes.{constraints_bytes, one_in, two_in, row_handed}
use Rattle.file_bytes.proofs.records.put_constraints.Given as goal

abbrev pub invariant-loop-k : goal.invariant-loop-k
invariant-loop-k l = l.buf ≡ stored l.initial.buf l.at (constraints_bytes (one_in l.xs) (two_in l.xs) (row_handed l.xs) l.k)
