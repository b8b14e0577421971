-- The number that digits spell, as a loop reads it.
use Prim.Native.Nat.{ℕ, ◌+◌, ◌-◌, ◌*◌, ◌^◌, ◌<◌, min}
use mathlib.Core.Path.{◌≡◌}
use mathlib.Core.List.{List, [], ◌∷◌, ◌++◌}
use lib.ListN.{length, length-append, take, get_or}
use native.Mathlib.Omega.{arith}
use Rattle.std.proofs.lemmas.List.{take_more}
use Rattle.std.proofs.lemmas.Grind.{pow_more}
use Rattle.group_file.specs.Decimal.{number}

-- One more digit behind: what was spelled counts ten times.
pub number_behind : (xs : List ℕ) (b : ℕ) → number (xs ++ (b ∷ [])) ≡ number xs * 10 + (b - 48)
unfolding number
number_behind [] b = omega arith
number_behind (x ∷ xs) b =
    times (x - 48) (number xs) (10 ^ length xs) (10 ^ length (xs ++ (b ∷ []))) (rw (length-append xs (b ∷ [])) (pow_more 10 (length xs))) (number_behind xs b)
  where
    times : {r : ℕ} (a s p q : ℕ) → q ≡ p * 10 → r ≡ s * 10 + (b - 48) → a * q + r ≡ (a * p + s) * 10 + (b - 48)
    times a s p q e h = rw (e, h) (omega arith)

-- A turn of the loop: both steps stop at the largest number, and so does their sum.
pub one_more : {out tenfold next : ℕ} (text : List ℕ) (i : ℕ) → i < length text → out ≡ min (2 ^ 64 - 1) (number (take i text)) →
    tenfold ≡ min (out * 10) (2 ^ 64 - 1) → next ≡ min (tenfold + (get_or text i 0 - 48)) (2 ^ 64 - 1) → next ≡ min (2 ^ 64 - 1) (number (take (i + 1) text))
one_more text i h e f g = rw (take_more text i 0 h, number_behind (take i text) (get_or text i 0)) (omega (arith, e, f, g))
