-- Bytes stored from a place on, and lists one behind another.
use Rattle.std.specs.Prelude.{ℕ, zero, suc, List, [], ◌∷◌, ◌++◌}
use Rattle.std.proofs.lemmas.List.Edits.{sets}

-- l with the bytes vs from i on.
unfoldable pub stored : List ℕ → ℕ → List ℕ → List ℕ
stored l i vs = sets l i vs

-- The lists g 0, g 1 .. of the numbers below k, one behind another.
unfoldable pub joined : {A : Type 0} → (ℕ → List A) → ℕ → List A
joined g zero = []
joined g (suc k) = joined g k ++ g k

-- The parts of a text, one behind another.
unfoldable pub together : List (List ℕ) → List ℕ
together [] = []
together (x ∷ xs) = x ++ together xs
