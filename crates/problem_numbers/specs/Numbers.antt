-- A problem as the numbers that the writer is handed, and the file of these numbers (document 01, "The job file").
use Rattle.std.specs.Prelude.{ℕ, ◌*◌, ◌/◌, ◌%◌, Bool, cond, ◌&&◌, ◌||◌, List, [], ◌∷◌, Option}
use Rattle.mask.specs.Range.{count}
use Rattle.mask.specs.Mask.{mask_of}
use Rattle.buffer.specs.Stored.{joined}
use Rattle.file_layout.specs.Numbers.{in_order}
use Rattle.file_bytes.specs.Bytes.{Handed, handed, bytes_of}
use Rattle.game.specs.Problem.{Problem}
use Rattle.game.specs.Lists.{domains}

module _ (P : Problem) where
  open P use {n, domain, universal, compatible, constrained}

  -- A constraint joins i and j, whichever comes first, and whether or not any of their values clash.
  unfoldable pub tied : ℕ → ℕ → Bool
  tied i j = constrained i j || constrained j i

  -- "Bit b of row a set: option a of choice i goes with option b of choice j. Bits for options outside either mask are clear."
  unfoldable pub row_of : ℕ → ℕ → ℕ → ℕ
  row_of i j a = mask_of 16 (λ b. domains domain i a && domains domain j b && compatible i a j b)

  -- The 18 numbers of a constraint ("i, j, rows").
  unfoldable pub constraint_numbers : ℕ → ℕ → List ℕ
  constraint_numbers i j = i ∷ j ∷ joined (λ a. row_of i j a ∷ []) 16

  -- The pair i < j < n has the number x = 32 i + j, so pairs ascend as their numbers do; a constraint joins its variables.
  unfoldable pub is_pair : ℕ → Bool
  is_pair x = in_order (x / 32) (x % 32) n && tied (x / 32) (x % 32)

  -- "Tables ascend strictly by (i, j)": those of the pairs with numbers below k, of all pairs, and how many they are.
  unfoldable pub constraints_below : ℕ → List ℕ
  constraints_below = joined (λ x. cond (is_pair x) (constraint_numbers (x / 32) (x % 32)) [])

  unfoldable pub constraints_of : List ℕ
  constraints_of = constraints_below (32 * n)

  unfoldable pub constraint_count : ℕ
  constraint_count = count (32 * n) is_pair

  -- "n, m, a rule set or none, the day's choices as bits of a 32-bit number, n masks, and 18 numbers a table", and their file.
  unfoldable pub numbers_of : Option ℕ → Handed
  numbers_of rules = handed n constraint_count rules (mask_of n universal) domain constraints_of []

  unfoldable pub file_of : Option ℕ → List ℕ
  file_of rules = bytes_of (numbers_of rules)
