-- Rule 7 over the arrays, for all values of the skipping variable i at once. A pair without i does not depend on i's value; a pair with it leaves
-- a mask of values. Free pairs are compatible, so only neighbours count.
use Rattle.std.specs.Prelude.{◌≡◌, Bool, true, cond, List, ℕ, ◌+◌, ◌%◌, ◌^◌, ◌<◌, T, eqb, get_or}
use Rattle.std.specs.Int.Bits.{bit_and}
use Rattle.mask.specs.Range.{each}
use Rattle.mask.specs.Mask.{bit, mask_of, above}
use Rattle.game.specs.Problem.{Problem}
use Rattle.game.specs.Search.{skippable}
use Rattle.solver_arrays.specs.Arrays.{row_in, common_in, States}
use Rattle.solver_arrays.specs.Words.{list_in, leaf_in}
use Rattle.solver_arrays.specs.declared.arrays.Arrays.{Arrays}

-- The values that j may have: none for i itself, whose pairs are asked apart; those of its mask for a later universal variable; else the leaf's.
unfoldable pub box_in : ℕ → ℕ → List ℕ → ℕ → ℕ
box_in later i w j = cond (eqb j i) 0 (cond (bit later j) (get_or w j 0) (2 ^ (get_or w (96 + j) 0 % 16)))

module _ (A : Arrays) (later i : ℕ) (w : List ℕ) where
  -- Every value that k may have goes with each value of the mask m of j.
  unfoldable pub box_goes : ℕ → ℕ → ℕ → Bool
  box_goes j m k = each 16 (bit (box_in later i w k)) (bit (common_in A j m k))

  -- The values of i that go with every value that j may have, and those that do so for each j of the mask m.
  unfoldable pub left_by : ℕ → ℕ
  left_by j = common_in A j (box_in later i w j) i

  unfoldable pub left_of : ℕ → ℕ
  left_of m = mask_of 16 (λ b. each 32 (bit m) (λ j. bit (left_by j) b))

-- It does so for each neighbour k of j above it, and for every j below n.
unfoldable pub goes_above : Arrays → ℕ → ℕ → List ℕ → ℕ → Bool
goes_above A later i w j = each 32 (bit (above (get_or A.near j 0) j)) (box_goes A later i w j (box_in later i w j))

unfoldable pub boxes_fit : Arrays → ℕ → ℕ → ℕ → List ℕ → Bool
boxes_fit A n later i w = each n (λ j. true) (goes_above A later i w)

-- The neighbours of j above it whose pairs with j the test looks at: where j has the leaf's value, the later universal ones alone.
unfoldable pub tested_above : Arrays → ℕ → ℕ → ℕ
tested_above A later j = let m = above (get_or A.near j 0) j in cond (bit later j) m (bit_and m later)

-- The leaf in the words w breaks no constraint of j with a variable above it; of any j below n.
abbrev pub LeafKeeps : Arrays → List ℕ → ℕ → Type 0
LeafKeeps A w j =
    (k : ℕ) → T (bit (above (get_or A.near j 0) j) k) → T (bit (row_in A j (get_or w (96 + j) 0 % 16) k) (get_or w (96 + k) 0 % 16))

abbrev pub LeafHolds : ℕ → Arrays → List ℕ → Type 0
LeafHolds n A w = (j : ℕ) → j < n → LeafKeeps A w j

-- The leaf in the words w has values only.
abbrev pub LeafSmall : ℕ → List ℕ → Type 0
LeafSmall n w = (j : ℕ) → j < n → get_or w (96 + j) 0 < 16

-- The mask r holds the values of i in the mask m that rule 7 skips after the leaf in the words w, in every problem that the arrays state.
abbrev pub Skips : (n : ℕ) (A : Arrays) (i m : ℕ) (w : List ℕ) (r : ℕ) → Type 0
Skips n A i m w r =
    (P : Problem) → States P n A → LeafSmall n w → r ≡ bit_and m (mask_of 16 (skippable P (list_in n w) i (leaf_in n w)))
