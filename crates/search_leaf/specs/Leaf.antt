-- The leaf over the arrays: every variable's word is a mask of one value.
use Rattle.std.specs.Prelude.{◌≡◌, Bool, cond, ◌&&◌, List, ℕ, zero, suc, ◌+◌, ◌%◌, ◌^◌, ◌<◌, eqb, get_or, length, set, Option, Some, None}
use Rattle.std.specs.Int.Bits.{bit_and}
use Rattle.mask.specs.Range.{first}
use Rattle.mask.specs.Mask.{bit, above}
use Rattle.game.specs.Problem.{Problem}
use Rattle.game.specs.Game.{satisfied}
use Rattle.game.specs.Position.{play_of}
use Rattle.game.specs.Search.{first_broken}
use Rattle.solver_arrays.specs.declared.arrays.Arrays.{Arrays}
use Rattle.solver_arrays.specs.Arrays.{row_in, States}

-- The value of a mask of one value: its lowest, cut to 4 bits so that it is a value whatever the mask.
unfoldable pub value_of : ℕ → ℕ
value_of m = first 16 (bit m) % 16

-- The value of variable j in the words w.
abbrev pub value_in : List ℕ → ℕ → ℕ
value_in w j = value_of (get_or w j 0)

-- No value of y goes with the value of x.
unfoldable pub clashes : Arrays → List ℕ → ℕ → ℕ → Bool
clashes A w x y = eqb (bit_and (row_in A x (value_in w x) y) (get_or w y 0)) 0

-- The first neighbour of x above it that its value clashes with, or 32.
unfoldable pub first_clash : Arrays → List ℕ → ℕ → ℕ
first_clash A w x = first 32 (λ y. bit (above (get_or A.near x 0) x) y && clashes A w x y)

-- The words w hold the play p of all n variables, each as a mask of one value.
pub record Plays (n : ℕ) (w p : List ℕ) : Type 0 where
  pub all : length p ≡ n
  pub small : (j : ℕ) → j < n → get_or p j 0 < 16
  pub word : (j : ℕ) → j < n → get_or w j 0 ≡ 2 ^ get_or p j 0

-- The mask of the two variables of the first constraint that the play p of n variables breaks.
abbrev pub broken_mask : Problem → ℕ → List ℕ → Option ℕ
broken_mask P n p = cond (satisfied P.compatible n (play_of p)) None (Some (first_broken P p))

-- The reply r is this one for the play that the words hold, in every problem that the arrays state.
abbrev pub Tells : (A : Arrays) (w : List ℕ) (r : Option ℕ) → Type 0
Tells A w r = (P : Problem) (p : List ℕ) → States P A.n A → Plays A.n w p → r ≡ broken_mask P A.n p

-- The words w with the values of the first n variables as leaf.
unfoldable pub with_leaf : ℕ → List ℕ → List ℕ
with_leaf zero w = w
with_leaf (suc n) w = set (with_leaf n w) (96 + n) (value_in w n)
