-- A position as numbers: how many plays, how many of these are held, and 32 places of a byte each, packed into the four numbers a, b, c and d,
-- eight to a number, the lowest byte first.
use Rattle.std.specs.Prelude.{ℕ, ◌*◌, ◌/◌, ◌%◌, ◌^◌, [], ◌∷◌, get_or}
use Rattle.game.specs.Lists.{list_of}
use Rattle.position.specs.declared.Position.{Position}

-- Byte k of a number, the lowest first.
unfoldable pub byte_of : ℕ → ℕ → ℕ
byte_of w k = (w / 2 ^ (8 * k)) % 256

-- Place k of the 32.
unfoldable pub place_in : ℕ → ℕ → ℕ → ℕ → ℕ → ℕ
place_in a b c d k = byte_of (get_or (a ∷ b ∷ c ∷ d ∷ []) (k / 8) 0) (k % 8)

unfoldable pub unpack : ℕ → ℕ → ℕ → ℕ → ℕ → ℕ → Position
unpack plays depth a b c d = record { plays = plays; depth = depth; values = list_of 32 (place_in a b c d) }
