-- Which lists are files, by the numbers that the writer is handed.
use Rattle.std.specs.Prelude.{ℕ, ◌≡◌, List, length}
use Rattle.refusal.specs.Chain.{Fine}
use Rattle.file_bytes.specs.Bytes.{Handed, bytes_of}
use Rattle.file_writer.specs.Tests.{write_test}

-- f is the file of some numbers that the writer takes: its tests are fine, with a buffer as long as f.
pub record Writes (f : List ℕ) : Type 0 where
  pub numbers : Handed
  pub taken : write_test numbers (length f) ≡ Fine
  pub bytes : f ≡ bytes_of numbers
