-- Verdict of a position, and the winning values of its next variable (the marks).
use Rattle.std.specs.Prelude.{Bool, ◌&&◌, List, [], ◌∷◌, ◌++◌, ℕ, length}
use Rattle.mask.specs.Mask.{mask_of}
use Rattle.game.specs.Problem.{Problem}
use Rattle.game.specs.Lists.{domains, wins_over}
use Rattle.game.specs.Position.{position}

-- The verdict of the plays p: the game over their position.
unfoldable pub verdict : Problem → List ℕ → Bool
verdict P p = wins_over P (position P p)

-- The mask of the next variable's values that win when played.
unfoldable pub winning_values : Problem → List ℕ → ℕ
winning_values P p = mask_of 16 (λ a. domains P.domain (length p) a && verdict P (p ++ (a ∷ [])))
