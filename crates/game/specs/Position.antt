-- Positions: the plays that stand, in order of play, over the file's domains.
use Rattle.std.specs.Prelude.{Bool, true, cond, ◌&&◌, List, [], ◌∷◌, ℕ, ◌^◌, eqb, ltb, leb, get_or, length}
use Rattle.mask.specs.Range.{each}
use Rattle.game.specs.Problem.{Problem}
use Rattle.game.specs.Game.{Domains, Play}
use Rattle.game.specs.Lists.{domains}

-- The plays as a function of the variable.
unfoldable pub play_of : List ℕ → Play
play_of p j = get_or p j 0

-- A position has no more than n plays, each in its variable's domain.
unfoldable pub legal : Problem → List ℕ → Bool
legal P p = leb (length p) P.n && each (length p) (λ j. true) (λ j. domains P.domain j (get_or p j 0))

-- A list of masks "with each played choice narrowed to the option played".
unfoldable pub narrowed : List ℕ → List ℕ → List ℕ
narrowed l [] = l
narrowed [] (a ∷ p) = []
narrowed (m ∷ l) (a ∷ p) = 2 ^ a ∷ narrowed l p

-- "A problem uses the file's masks; a position uses them with each played choice narrowed."
unfoldable pub position : Problem → List ℕ → List ℕ
position P p = narrowed P.domain p

-- The same over domains: the first i variables narrowed to the values of p.
unfoldable pub placed : Domains → ℕ → Play → Domains
placed F i p j = cond (ltb j i) (λ b. eqb b (p j)) (F j)
