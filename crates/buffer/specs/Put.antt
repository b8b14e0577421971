-- Texts put into a buffer piece by piece, as far as it reaches.
use Rattle.std.specs.Prelude.{ℕ, ◌+◌, min, ◌≡◌, List, length}
use Rattle.buffer.specs.declared.Text.{Text}
use Rattle.buffer.specs.Stored.{stored}

-- The largest number of 64 bits: no buffer is longer, and places are counted no further.
abbrev pub largest : ℕ
largest = 18446744073709551615

-- The text was put into s, and t is what s is afterwards. Bytes behind the buffer's end are left out.
pub record Put (s : Text) (text : List ℕ) (t : Text) : Type 0 where
  pub ends : t.at ≡ min largest (s.at + length text)
  pub bytes : t.out.now ≡ stored s.out.now s.at text
  pub same : t.out.ghost_name ≡ s.out.ghost_name
