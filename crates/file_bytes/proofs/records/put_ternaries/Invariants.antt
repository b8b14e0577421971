use Prim.Native.Nat.{◌+◌, ◌*◌}
use mathlib.Core.Path.{◌≡◌}
use Rattle.buffer.specs.Stored.{stored, joined}
use Rattle.file_bytes.specs.Bytes.{ternary_in, start_in}
use Rattle.file_bytes.proofs.records.put_ternaries.Given as goal

abbrev pub invariant-loop : goal.invariant-loop
invariant-loop l =
    (l.base ≡ start_in l.xs l.counter) × (l.end ≡ l.at + (start_in l.xs l.counter + 2 * l.counter))
    × (l.buf ≡ stored l.initial.buf l.at (joined (ternary_in l.xs) l.counter))
