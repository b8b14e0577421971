-- Lists of masks: the form in which domains are lent, kept and replied.
use Rattle.std.specs.Prelude.{◌≡◌, Bool, true, not, ◌&&◌, List, [], ◌∷◌, ◌++◌, ℕ, zero, suc, ◌-◌, ◌^◌, ◌<◌, eqb, get_or, length, set, replicate}
use Rattle.std.specs.Int.Bits.{bit_and}
use Rattle.mask.specs.Range.{each}
use Rattle.mask.specs.Mask.{bit, mask_of}
use Rattle.game.specs.Problem.{Problem}
use Rattle.game.specs.Game.{Domains, wins}

-- The domains that a list of masks states ("bit k stands for option k").
unfoldable pub domains : List ℕ → Domains
domains l i a = bit (get_or l i 0) a

-- The list f 0, f 1, .. of n numbers; the list of the n masks of domains.
unfoldable pub list_of : ℕ → (ℕ → ℕ) → List ℕ
list_of zero f = []
list_of (suc n) f = f zero ∷ list_of n (λ i. f (suc i))

unfoldable pub masks_of : ℕ → Domains → List ℕ
masks_of n D = list_of n (λ i. mask_of 16 (D i))

-- A list in 32 places, zero behind it: positions, open values and counts are kept and replied so.
unfoldable pub spread : List ℕ → List ℕ
spread l = l ++ replicate (32 - length l) 0

-- A list of n masks of 16 bits.
pub record Masks (n : ℕ) (l : List ℕ) : Type 0 where
  pub size : length l ≡ n
  pub small : (i : ℕ) → get_or l i 0 < 65536

-- The list with variable i narrowed to value a.
unfoldable pub narrow_to : List ℕ → ℕ → ℕ → List ℕ
narrow_to l i a = set l i (2 ^ a)

-- Every member of m is one of w.
unfoldable pub within : ℕ → ℕ → Bool
within m w = eqb (bit_and w m) m

-- A list that may be lent: "n masks, none zero, each within the file's mask".
unfoldable pub may_lend : Problem → List ℕ → Bool
may_lend P l = eqb (length l) P.n && each P.n (λ i. true) (λ i. not (eqb (get_or l i 0) 0) && within (get_or l i 0) (get_or P.domain i 0))

-- The game over a list of n masks.
unfoldable pub wins_over : Problem → List ℕ → Bool
wins_over P l = wins P.n P.universal P.compatible (domains l)
