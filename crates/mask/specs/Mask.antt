-- Sets of values as numbers: value k is in the set where bit k is set (document 01: "bit k stands for option k").
use Rattle.std.specs.Prelude.{ℕ, zero, suc, ◌+◌, ◌-◌, ◌/◌, ◌%◌, ◌^◌, Bool, cond, eqb}
use Rattle.std.specs.Int.Bits.{bit_and, bit_or, bit_xor}

-- Bit k of m is set.
unfoldable pub bit : ℕ → ℕ → Bool
bit m k = eqb (m / 2 ^ k % 2) 1

-- m without the members of w.
unfoldable pub diff : ℕ → ℕ → ℕ
diff m w = bit_xor m (bit_and m w)

-- The mask of the numbers below v that pass f.
unfoldable pub mask_of : ℕ → (ℕ → Bool) → ℕ
mask_of zero f = zero
mask_of (suc v) f = cond (f v) (bit_or (mask_of v f) (2 ^ v)) (mask_of v f)

-- A mask without its lowest member.
unfoldable pub rest : ℕ → ℕ
rest m = bit_and m (m - 1)

-- The members of a mask above k.
unfoldable pub above : ℕ → ℕ → ℕ
above m k = diff m (2 ^ (k + 1) - 1)
