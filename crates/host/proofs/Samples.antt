-- A position's numbers, unpacked.
use mathlib.Core.Path.{◌≡◌, refl}
use mathlib.Core.List.{[], ◌∷◌, ◌++◌}
use Prim.Native.Nat.{◌+◌, ◌-◌, ◌*◌, ◌^◌}
use lib.ListN.{replicate}
use Rattle.game.specs.Lists.{list_of}
use Rattle.host.specs.Unpack.{byte_of, place_in, unpack}

-- Places 0 to 2 in the first number's lowest bytes, place 8 in the second's lowest, place 31 in the fourth's highest; the number of plays and the depth are
-- as given.
places : unpack (2 ^ 64 - 1) (2 ^ 64 - 2) (1 + 2 * 256 + 3 * 256 * 256) 9 0 (255 * 2 ^ 56)
    ≡ record { plays = 2 ^ 64 - 1; depth = 2 ^ 64 - 2; values = (1 ∷ 2 ∷ 3 ∷ replicate 5 0) ++ (9 ∷ replicate 22 0) ++ (255 ∷ []) }
unfolding byte_of place_in unpack list_of
places = refl
