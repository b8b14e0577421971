-- The numbers of problem_numbers/specs/Numbers.antt over the arrays that state the problem.
use Rattle.std.specs.Prelude.{◌≡◌, ℕ, ◌*◌, ◌/◌, ◌%◌, Bool, cond, ◌&&◌, ◌||◌, List, [], ◌∷◌, get_or}
use Rattle.std.specs.Int.Bits.{bit_and}
use Rattle.mask.specs.Range.{count}
use Rattle.mask.specs.Mask.{bit}
use Rattle.buffer.specs.Stored.{stored, joined}
use Rattle.file_layout.specs.Numbers.{in_order}
use Rattle.solver_arrays.specs.declared.arrays.Arrays.{Arrays}
use Rattle.solver_arrays.specs.Arrays.{row_in}

module _ (A : Arrays) where
  unfoldable pub tied_in : ℕ → ℕ → Bool
  tied_in i j = bit (get_or A.near i 0) j || bit (get_or A.near j 0) i

  unfoldable pub row_within : ℕ → ℕ → ℕ → ℕ
  row_within i j a = cond (bit (get_or A.domains i 0) a) (bit_and (row_in A i a j) (get_or A.domains j 0)) 0

  unfoldable pub numbers_in : ℕ → ℕ → List ℕ
  numbers_in i j = i ∷ j ∷ joined (λ a. row_within i j a ∷ []) 16

  -- The pair with number x; the constraints of the pairs below k.
  unfoldable pub is_pair_in : ℕ → Bool
  is_pair_in x = in_order (x / 32) (x % 32) A.n && tied_in (x / 32) (x % 32)

  unfoldable pub constraints_in : ℕ → List ℕ
  constraints_in = joined (λ x. cond (is_pair_in x) (numbers_in (x / 32) (x % 32)) [])

  -- All constraints are put at the front of the numbers l, which are l' then, and are so many.
  pub record Lists (many : ℕ) (l l' : List ℕ) : Type 0 where
    pub counted : many ≡ count (32 * A.n) is_pair_in
    pub listed : l' ≡ stored l 0 (constraints_in (32 * A.n))
