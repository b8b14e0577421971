-- A value's row against the mask of a later variable: the check of one variable, and of a mask of variables.
use Rattle.std.specs.Prelude.{◌≡◌, Bool, false, cond, not, ◌&&◌, List, ℕ, ◌<◌, eqb, ltb, get_or, set, Option, Some, None}
use Rattle.std.specs.Int.Bits.{bit_and, bit_or}
use Rattle.mask.specs.Range.{first}
use Rattle.mask.specs.Mask.{bit, mask_of}
use Rattle.game.specs.Lists.{list_of}
use Rattle.solver_arrays.specs.Arrays.{row_in}
use Rattle.solver_arrays.specs.Words.{reason_in, put_reason, holding}
use Rattle.solver_arrays.specs.declared.arrays.Arrays.{Arrays}
use Rattle.rule_forward.specs.declared.steps.Ahead.{Ahead}

-- The members of the mask m after x and below n.
unfoldable pub later_of : ℕ → ℕ → ℕ → ℕ
later_of m x n = mask_of 32 (λ k. bit m k && (ltb x k && ltb k n))

-- What the row r leaves of the mask m of a variable that is universal where u says so, and whether the check fails there.
unfoldable pub left_of : Bool → ℕ → ℕ → ℕ
left_of u r m = cond u m (bit_and m r)

unfoldable pub fails_at : Bool → ℕ → ℕ → Bool
fails_at u r m = cond u (not (eqb (bit_and m r) m)) (eqb (bit_and m r) 0)

-- The reason r of a variable whose mask goes from m to k: it takes q in where the mask changes.
unfoldable pub reason_of : ℕ → ℕ → ℕ → ℕ → ℕ
reason_of q m k r = cond (eqb k m) r (bit_or r q)

-- The words w with variable j checked: u and r as above, q the reason of the value's variable.
unfoldable pub checked_at : Bool → ℕ → ℕ → List ℕ → ℕ → List ℕ
checked_at u r q w j = put_reason (set w j (left_of u r (get_or w j 0))) j (reason_of q (get_or w j 0) (left_of u r (get_or w j 0)) (reason_in w j))

module _ (A : Arrays) (x a : ℕ) where
  -- The check of value a of x at variable j, over the words w: the mask that it leaves, the reason, and whether it fails.
  unfoldable pub mask_at : List ℕ → ℕ → ℕ
  mask_at w j = left_of (bit A.universal j) (row_in A x a j) (get_or w j 0)

  unfoldable pub why_at : ℕ → List ℕ → ℕ → ℕ
  why_at q w j = reason_of q (get_or w j 0) (mask_at w j) (reason_in w j)

  unfoldable pub failing : List ℕ → ℕ → Bool
  failing w j = fails_at (bit A.universal j) (row_in A x a j) (get_or w j 0)

  -- The words with the variables checked that d holds; the first of them that fails, or n.
  unfoldable pub checked_words : ℕ → ℕ → (ℕ → Bool) → List ℕ → List ℕ
  checked_words n q d w = holding n w (list_of n (λ j. cond (d j) (mask_at w j) (get_or w j 0))) (list_of n (λ j. cond (d j) (why_at q w j) (reason_in w j)))

  unfoldable pub first_failing : ℕ → (ℕ → Bool) → List ℕ → ℕ
  first_failing n d w = first n (λ j. d j && failing w j)

-- The domains outside the mask m are as they were.
abbrev pub Unmoved : ℕ → List ℕ → List ℕ → Type 0
Unmoved m w w' = (k : ℕ) → k < 32 → bit m k ≡ false → get_or w' k 0 ≡ get_or w k 0

module _ (A : Arrays) (x n m : ℕ) where
  -- The check of value a of x against the members of m is a loss; the first value of the mask d that loses so, or 16.
  unfoldable pub losing : List ℕ → ℕ → Bool
  losing w a = ltb (first_failing A x a n (bit m) w) n

  unfoldable pub first_losing : ℕ → List ℕ → ℕ
  first_losing d w = first 16 (λ a. bit d a && losing w a)

  -- The variable at which that value fails, or n.
  unfoldable pub losing_at : ℕ → List ℕ → ℕ
  losing_at d w = cond (ltb (first_losing d w) 16) (first_failing A x (first_losing d w) n (bit m) w) n

-- A losing value below 16 with the variable that its loss names, or none.
unfoldable pub ahead : ℕ → ℕ → Option Ahead
ahead value variable = cond (ltb value 16) (Some record { value = value; variable = variable }) None
