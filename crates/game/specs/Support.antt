-- One value against the domain of another variable.
use Rattle.std.specs.Prelude.{Bool, true, not, ℕ}
use Rattle.mask.specs.Range.{some}
use Rattle.game.specs.Problem.{Problem}
use Rattle.game.specs.Game.{Domains}

module _ (P : Problem) where
  open P use {compatible}

  -- Value a of variable x clashes with some value of y.
  unfoldable pub clashes : Domains → ℕ → ℕ → ℕ → Bool
  clashes D x a y = some 16 (D y) (λ b. not (compatible x a y b))

  -- Value a of variable x goes with no value of y.
  unfoldable pub alone : Domains → ℕ → ℕ → ℕ → Bool
  alone D x a y = not (some 16 (D y) (λ b. compatible x a y b))

  -- The domain of x is empty.
  unfoldable pub empty : Domains → ℕ → Bool
  empty D x = not (some 16 (D x) (λ a. true))
