-- Numbers in decimal.
use Rattle.std.specs.Prelude.{ℕ, zero, suc, ◌+◌, ◌/◌, ◌%◌, cond, List, [], ◌∷◌, ◌++◌, ltb}

-- A digit in ASCII.
unfoldable pub digit : ℕ → ℕ
digit d = 48 + d

-- x in decimal, where k digits are enough in front of the last.
unfoldable pub spelled : ℕ → ℕ → List ℕ
spelled zero x = digit x ∷ []
spelled (suc k) x = cond (ltb x 10) (digit x ∷ []) (spelled k (x / 10) ++ (digit (x % 10) ∷ []))

-- x in decimal, with no zero in front. It has at most x digits in front of the last.
unfoldable pub decimal : ℕ → List ℕ
decimal x = spelled x x
