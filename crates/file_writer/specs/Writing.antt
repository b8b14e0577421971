-- What writing tells, and what it leaves in the buffer: on a refusal what was there, else the bytes at the front and what was behind them.
use Rattle.std.specs.Prelude.{ℕ, List, [], ◌∷◌, length, Result}
use Rattle.refusal.specs.declared.reason.Reason.{Reason}
use Rattle.refusal.specs.Told.{Told, reason_told, told_by}
use Rattle.refusal.specs.Replied.{replied_for, list_for}
use Rattle.buffer.specs.Stored.{stored}
use Rattle.file_bytes.specs.Bytes.{Handed, bytes_of}
use Rattle.file_writer.specs.Tests.{write_test}

-- The length written, or a refusal, in document 01's numbers.
abbrev pub told : Result ℕ Reason → Told
told = told_by (λ k. k ∷ []) reason_told

-- What the writer tells of these numbers and a buffer of this length, and what it leaves in a buffer.
unfoldable pub write_told : Handed → ℕ → Told
write_told h room = replied_for (write_test h room) (length (bytes_of h) ∷ [])

unfoldable pub write_buffer : Handed → List ℕ → List ℕ
write_buffer h old = list_for (write_test h (length old)) (stored old 0 (bytes_of h)) old
