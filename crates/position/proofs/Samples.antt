-- Which positions fit two choices with the options 0 and 1 and, at the second, 0 and 2, and what a play, a take-back and a hold make of one.
use mathlib.Core.Bool.{Bool, true, false}
use mathlib.Core.Path.{◌≡◌, refl}
use mathlib.Core.List.{List, [], ◌∷◌, ◌++◌}
use Prim.Native.Nat.{ℕ, ◌-◌, ◌^◌}
use lib.ListN.{replicate}
use Rattle.mask.specs.Range.{each}
use Rattle.mask.specs.Mask.{bit}
use Rattle.game.specs.Lists.{spread}
use Rattle.position.specs.Position.{shown, pushed, popped, held, place_fits, fits_at, fits_in}

abbrev fitting_at : ℕ → ℕ → List ℕ → Bool
fitting_at depth plays values = fits_in record { plays = plays; depth = depth; values = values ++ replicate 28 0 } 2 (3 ∷ 5 ∷ [])

abbrev fitting : ℕ → List ℕ → Bool
fitting plays values = fitting_at 0 plays values

-- Nothing, one and both played.
fit : (fitting 0 (0 ∷ 0 ∷ 0 ∷ 0 ∷ []) ≡ true) × (fitting 1 (1 ∷ 0 ∷ 0 ∷ 0 ∷ []) ≡ true) × (fitting 2 (1 ∷ 2 ∷ 0 ∷ 0 ∷ []) ≡ true)
unfolding each bit place_fits fits_at fits_in
fit = (refl, refl, refl)

-- More than two plays; an option outside its mask, below 16 and above; a value left behind the plays, at a choice and past the last.
misfit : (fitting 3 (1 ∷ 2 ∷ 0 ∷ 0 ∷ []) ≡ false) × (fitting 2 (1 ∷ 1 ∷ 0 ∷ 0 ∷ []) ≡ false) × (fitting 1 (16 ∷ 0 ∷ 0 ∷ 0 ∷ []) ≡ false)
    × (fitting 0 (1 ∷ 0 ∷ 0 ∷ 0 ∷ []) ≡ false) × (fitting 2 (1 ∷ 2 ∷ 0 ∷ 7 ∷ []) ≡ false)
unfolding each bit place_fits fits_at fits_in
misfit = (refl, refl, refl, refl, refl)

-- As many held as played, or fewer; one more than these, and the largest number.
depths : (fitting_at 1 1 (1 ∷ 0 ∷ 0 ∷ 0 ∷ []) ≡ true) × (fitting_at 1 2 (1 ∷ 2 ∷ 0 ∷ 0 ∷ []) ≡ true) × (fitting_at 1 0 (0 ∷ 0 ∷ 0 ∷ 0 ∷ []) ≡ false)
    × (fitting_at 2 1 (1 ∷ 0 ∷ 0 ∷ 0 ∷ []) ≡ false) × (fitting_at (2 ^ 64 - 1) 2 (1 ∷ 2 ∷ 0 ∷ 0 ∷ []) ≡ false)
unfolding each bit place_fits fits_at fits_in
depths = (refl, refl, refl, refl, refl)

-- A play, another, and two taken back; the depth stays in each. All held, and none.
turns : (pushed (pushed (shown 0 []) 1) 2 ≡ shown 0 (1 ∷ 2 ∷ [])) × (popped (popped (shown 0 (1 ∷ 2 ∷ []))) ≡ shown 0 []) × (pushed (shown 1 (1 ∷ [])) 2 ≡ shown 1 (1 ∷ 2 ∷ []))
    × (popped (shown 1 (1 ∷ 2 ∷ [])) ≡ shown 1 (1 ∷ [])) × (held (shown 0 (1 ∷ 2 ∷ [])) 2 ≡ shown 2 (1 ∷ 2 ∷ [])) × (held (shown 2 (1 ∷ 2 ∷ [])) 0 ≡ shown 0 (1 ∷ 2 ∷ []))
unfolding spread shown pushed popped held
turns = (refl, refl, refl, refl, refl, refl)
