-- Loops over the members of a mask.
use Rattle.std.specs.Prelude.{cond, ℕ}
use Rattle.mask.specs.Mask.{bit}
use Rattle.game.specs.Reasons.{loop}

-- f for the members below n of the mask m, ascending.
unfoldable pub over : {A : Type 0} → ℕ → ℕ → (ℕ → A → A) → A → A
over m n f = loop n 0 (λ k s. cond (bit m k) (f k s) s)
