-- Rule 3, look ahead.
use Rattle.std.specs.Prelude.{Bool, ◌&&◌, List, ℕ}
use Rattle.mask.specs.Range.{some, first}
use Rattle.game.specs.Problem.{Problem}
use Rattle.game.specs.Game.{Domains}
use Rattle.game.specs.Lists.{domains}
use Rattle.game.specs.Forward.{forward_loss}

module _ (P : Problem) where
  open P use {universal}

  -- "For a day's choice: loss if the forward check of some option in its mask is a loss. Called on a shift's choice it says no loss."
  unfoldable pub ahead_loss : ℕ → Domains → Bool
  ahead_loss x D = universal x && some 16 (D x) (λ a. forward_loss P D x a)

  unfoldable pub look_ahead : ℕ → List ℕ → Bool
  look_ahead x l = ahead_loss x (domains l)

  -- The value that a loss names: the lowest whose forward check is a loss (16 if there is none).
  unfoldable pub ahead_named : ℕ → List ℕ → ℕ
  ahead_named x l = first 16 (λ a. let f = forward_loss P (domains l) x a in domains l x a && f)
