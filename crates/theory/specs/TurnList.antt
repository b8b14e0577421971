-- The list of a turn.
use Rattle.std.specs.Prelude.{◌≡◌, List, ℕ, ◌^◌, ◌≤◌, ◌<◌, T, get_or, length}
use Rattle.game.specs.Problem.{Problem}
use Rattle.game.specs.Lists.{may_lend}

-- A list l of a turn after the plays p: it may be lent, and each played variable has the mask of its value.
pub record AtTurn (P : Problem) (p l : List ℕ) : Type 0 where
  pub may : T (may_lend P l)
  pub depth : length p ≤ P.n
  pub played : (j : ℕ) → j < length p → get_or l j 0 ≡ 2 ^ get_or p j 0
