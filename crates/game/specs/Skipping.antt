-- Rule 7's sentence as a turn: "After the winning leaf that the turn below hands up, an untried option of a day's choice is skipped if, and
-- only if," its test holds (`skippable` in Search).
use Rattle.std.specs.Prelude.{Bool, false, cond, not, ◌&&◌, ◌||◌, List, [], ◌∷◌, ℕ, zero, suc, get_or, length}
use Rattle.mask.specs.Mask.{bit}
use Rattle.game.specs.Problem.{Problem}
use Rattle.game.specs.Rule.{uses}
use Rattle.game.specs.Search.{Ending, solved, and_also, skippable}
use Rattle.game.specs.Turns.{turn_below}

-- A universal turn over the domain d: ls holds the leaves handed up so far. A value is skipped if, and only if, one of them lets it be skipped.
unfoldable pub shown : (List ℕ → ℕ → Bool) → List (List ℕ) → ℕ → Bool
shown skips [] a = false
shown skips (r ∷ ls) a = skips r a || shown skips ls a

unfoldable pub skipping : (List ℕ → ℕ → Bool) → ℕ → (ℕ → Ending) → ℕ → ℕ → List (List ℕ) → List ℕ → Ending
skipping skips d f zero a ls q = solved q
skipping skips d f (suc v) a ls q =
    cond (bit d a && not (shown skips ls a)) (and_also (f a) (λ r. skipping skips d f v (suc a) (r ∷ ls) r)) (skipping skips d f v (suc a) ls q)

-- The turn after the plays p, whose rules reached the list e and the reasons R, with k variables left below it.
abbrev pub skipping_turn : Problem → ℕ → ℕ → List ℕ → List ℕ → List ℕ → Ending
skipping_turn P S k p e R = skipping (λ q a. uses S 7 && skippable P e (length p) q a) (get_or e (length p) 0) (turn_below P S k p e R) 16 0 [] p
