-- What a call tells, as one number for a C program.
use Rattle.std.specs.Prelude.{ℕ, suc, get_or}
use Rattle.refusal.specs.Told.{Told, replied, refused, refused_at}

-- The value of a finished reply; k where the call is refused by number, and the next number where the file is. k is above every value: 2 for a
-- loss or none, 65536 for a mask.
unfoldable pub as_number : ℕ → Told → ℕ
as_number k (replied l) = get_or l 0 0
as_number k (refused e) = k
as_number k (refused_at e p) = suc k
