-- What the conflict set of an existential turn starts with, over the words of the turn.
use Rattle.std.specs.Prelude.{◌≡◌, Bool, not, List, ℕ, ◌^◌, ◌<◌, eqb, get_or}
use Rattle.mask.specs.Range.{some}
use Rattle.mask.specs.Mask.{bit, mask_of}
use Rattle.game.specs.Problem.{Problem}
use Rattle.game.specs.Search.{start_set}
use Rattle.solver_arrays.specs.Arrays.{States}
use Rattle.solver_arrays.specs.Words.{reason_in, why_in}
use Rattle.solver_arrays.specs.declared.arrays.Arrays.{Arrays}

-- The reasons of the members of m, joined.
unfoldable pub joined_reasons : ℕ → List ℕ → ℕ
joined_reasons m w = mask_of 32 (λ j. some 32 (bit m) (λ k. bit (reason_in w k) j))

-- The reasons of the n variables are sets of these variables.
abbrev pub ReasonsBelow : ℕ → List ℕ → Type 0
ReasonsBelow n w = (k : ℕ) → k < n → reason_in w k < 2 ^ n

-- For every problem that the arrays state: r is the set that the turn of d starts with where rules 4 and 5 narrowed the list l to e.
abbrev pub Starts : (n : ℕ) (A : Arrays) (d : ℕ) (narrowed : Bool) (w : List ℕ) (r : ℕ) → Type 0
Starts n A d narrowed w r =
    (P : Problem) (l e : List ℕ) → States P n A
    → d < n → ReasonsBelow n w → narrowed ≡ not (eqb (get_or e d 0) (get_or l d 0)) → r ≡ start_set P (why_in n w) l e d
