use mathlib.Core.Path.{◌≡◌}
use Prim.Native.Nat.{◌%◌}
use mathlib.Core.List.{[], ◌∷◌}
use Rattle.buffer.specs.Stored.{stored, joined}
use Rattle.file_bytes.specs.Bytes.{from}
use Rattle.file_bytes.proofs.records.put_bytes.Given as goal

abbrev pub invariant-loop-k : goal.invariant-loop-k
invariant-loop-k l = l.buf ≡ stored l.initial.buf l.at (joined (λ k. from l.xs l.base k % 256 ∷ []) l.k)
