-- What the look-up shows of any two variables of a file.
use Rattle.std.specs.Prelude.{ℕ, ◌*◌, Bool, true, false, ◌&&◌, ◌||◌, List, [], ◌∷◌}
use Rattle.mask.specs.Mask.{bit}
use Rattle.refusal.specs.Told.{Told, replied, refused, refused_at}
use Rattle.file_layout.specs.Layout.{word}
use Rattle.file_lookup.specs.Lookup.{look_up, rows_at}

-- The look-up tells of a constraint.
unfoldable pub found : Told → Bool
found (replied []) = false
found (replied (p ∷ [])) = true
found (replied (p ∷ q ∷ ps)) = false
found (refused e) = false
found (refused_at e p) = false

-- "Bit b of row a set: option a of choice i goes with option b of choice j", in the 32 row bytes that the look-up shows; where it tells of
-- none, "a pair without a table is free".
unfoldable pub allows : Told → List ℕ → ℕ → ℕ → Bool
allows (replied []) f a b = true
allows (replied (p ∷ [])) f a b = bit (word (rows_at f p) (2 * a)) b
allows (replied (p ∷ q ∷ ps)) f a b = true
allows (refused e) f a b = true
allows (refused_at e p) f a b = true

-- A constraint joins i and j. The look-up takes a pair in ascending order only, so at most one of the two orders finds it.
unfoldable pub constrained_of : List ℕ → ℕ → ℕ → Bool
constrained_of f i j = found (look_up f i j) || found (look_up f j i)

-- Value a of i goes with value b of j, whichever of them comes first.
unfoldable pub compatible_of : List ℕ → ℕ → ℕ → ℕ → ℕ → Bool
compatible_of f i a j b = allows (look_up f i j) f a b && allows (look_up f j i) f b a
