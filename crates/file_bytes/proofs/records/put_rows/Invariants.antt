use mathlib.Core.Path.{◌≡◌}
use Rattle.buffer.specs.Stored.{stored}
use Rattle.file_bytes.specs.Bytes.{rows_bytes, from}
use Rattle.file_bytes.proofs.records.put_rows.Given as goal

abbrev pub invariant-loop-a : goal.invariant-loop-a
invariant-loop-a l = l.buf ≡ stored l.initial.buf l.at (rows_bytes (from l.xs l.base) l.a)
