-- The sides of booleans, true for universal, as a prefix gives them; booleans are numbered below 513.
use Rattle.std.specs.Prelude.{ℕ, zero, suc, ◌%◌, Bool, List, [], ◌∷◌, set}
use Rattle.formula.specs.Formula.{Quantified}

unfoldable pub marked : List Bool → List Quantified → List Bool
marked l [] = l
marked l (q ∷ qs) = marked (set l (q.boolean % 513) q.universal) qs

-- The prefix of the k booleans from v on, with these sides.
unfoldable pub ranked : (ℕ → Bool) → ℕ → ℕ → List Quantified
ranked side zero v = []
ranked side (suc k) v = record { universal = side v; boolean = v } ∷ ranked side k (suc v)
