-- Tests of the numbers below a bound.
use Rattle.std.specs.Prelude.{ℕ, zero, suc, ◌+◌, Bool, true, false, cond, not, ◌&&◌, ◌||◌}

-- Some number below v that d holds passes f. What a `let` binds waits, so f is asked only where d holds.
unfoldable pub some : ℕ → (ℕ → Bool) → (ℕ → Bool) → Bool
some zero d f = false
some (suc v) d f = let g = f v in let r = some v d f in d v && g || r

-- Each number below v that d holds passes f.
unfoldable pub each : ℕ → (ℕ → Bool) → (ℕ → Bool) → Bool
each zero d f = true
each (suc v) d f = let g = f v in let r = each v d f in (not (d v) || g) && r

-- How many numbers below v pass f.
unfoldable pub count : ℕ → (ℕ → Bool) → ℕ
count zero f = zero
count (suc v) f = count v f + cond (f v) 1 0

-- The first number below v that passes f, or v.
unfoldable pub first : ℕ → (ℕ → Bool) → ℕ
first zero f = zero
first (suc v) f = cond (f zero) zero (suc (first v (λ (k : ℕ). f (suc k))))
