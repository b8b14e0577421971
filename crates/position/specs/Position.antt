-- "A position is the number of plays and 32 places: the options played, in order of play, and zero elsewhere. A play adds at the next
-- place, a take-back clears the last." Document 02, card 6: "The position gains a lock depth: the first so many plays are held."
use Rattle.std.specs.Prelude.{◌≡◌, Bool, true, cond, ◌&&◌, List, ℕ, ◌+◌, ◌-◌, ◌^◌, eqb, ltb, leb, get_or, length, take, drop, set}
use Rattle.mask.specs.Range.{each}
use Rattle.mask.specs.Mask.{bit}
use Rattle.refusal.specs.declared.reason.Reason.TheVariants.{Misfit}
use Rattle.refusal.specs.Chain.{Test, need}
use Rattle.game.specs.Problem.{Problem}
use Rattle.game.specs.Lists.{spread}
use Rattle.game.specs.Position.{position}
use Rattle.position.specs.declared.Position.{Position}

-- The position that shows these plays, the first d of them held: they, then zeros.
unfoldable pub shown : ℕ → List ℕ → Position
shown d l = record { plays = length l; depth = d; values = spread l }

-- The plays that stand in a position.
unfoldable pub plays_of : Position → List ℕ
plays_of p = take p.plays p.values

-- A play adds at the next place.
unfoldable pub pushed : Position → ℕ → Position
pushed p a = record { plays = p.plays + 1; depth = p.depth; values = set p.values p.plays a }

-- A take-back clears the last.
unfoldable pub popped : Position → Position
popped p = record { plays = p.plays - 1; depth = p.depth; values = set p.values (p.plays - 1) 0 }

-- The first d plays are held, whatever the depth was.
unfoldable pub held : Position → ℕ → Position
held p d = record { plays = p.plays; depth = d; values = p.values }

-- The option at place i, over the mask m: among the plays it is in its mask, elsewhere it is zero.
unfoldable pub place_fits : ℕ → ℕ → ℕ → ℕ → Bool
place_fits plays i m value = cond (ltb i plays) (bit m value) (eqb value 0)

-- The same at place i of a position over a list of masks.
unfoldable pub fits_at : Position → List ℕ → ℕ → Bool
fits_at p masks i = place_fits p.plays i (get_or masks i 0) (get_or p.values i 0)

-- "23 Misfit: a position with more than n plays, a played option outside its mask, or an unplayed place that is not zero." "Misfit covers a
-- lock depth above the number of plays." This test holds of a position that is none of these. Places from n on are unplayed, and a mask
-- holds no option above 15.
unfoldable pub fits_in : Position → ℕ → List ℕ → Bool
fits_in p n masks = leb p.plays n && (leb p.depth p.plays && each 32 (λ i. true) (fits_at p masks))

unfoldable pub fit_test : ℕ → List ℕ → Position → Test
fit_test n masks p = need (fits_in p n masks) Misfit

-- The mask of place i in a position: the option played alone, elsewhere the file's mask.
unfoldable pub place_mask : ℕ → ℕ → ℕ → ℕ → ℕ
place_mask plays i m value = cond (ltb i plays) (2 ^ value) m

-- The words w become v: the first n are the position's list in every problem over the first n masks, the others stay.
pub record Written (p : Position) (n : ℕ) (masks w v : List ℕ) : Type 0 where
  pub list : (P : Problem) → P.n ≡ n → P.domain ≡ take n masks → take n v ≡ position P (plays_of p)
  pub others : drop n v ≡ drop n w
