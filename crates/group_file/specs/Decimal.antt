-- Numbers read in decimal.
use Rattle.std.specs.Prelude.{ℕ, ◌+◌, ◌-◌, ◌*◌, ◌^◌, min, cond, eqb, not, ◌||◌, List, [], ◌∷◌, length, Option, Some, None}
use Rattle.std.specs.Char.{is_ascii_digit}
use Rattle.std.specs.List.{list_all}

-- The number that digits in ASCII spell: each counts as often as ten to the power of how many follow it.
unfoldable pub number : List ℕ → ℕ
number [] = 0
number (b ∷ bs) = (b - 48) * 10 ^ length bs + number bs

-- No number where some byte is no digit or there is none, else the number spelled, the largest of 64 bits where it is larger.
unfoldable pub decimal_of : List ℕ → Option ℕ
decimal_of text = cond (not (list_all is_ascii_digit text) || eqb (length text) 0) None (Some (min (2 ^ 64 - 1) (number text)))
