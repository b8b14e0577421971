-- The loss of rule 1 and its conflict set on the words of a turn, as the code finds them: whole masks, neighbours only.
-- proofs/LossLaws.antt says that they are the definition's.
use Rattle.std.specs.Prelude.{Bool, cond, not, ◌&&◌, ◌||◌, List, ℕ, eqb, ltb, get_or, Option, Some, None}
use Rattle.std.specs.Int.Bits.{bit_and, bit_or}
use Rattle.mask.specs.Range.{each, first}
use Rattle.mask.specs.Mask.{bit}
use Rattle.solver_arrays.specs.Arrays.{supported_in, common_in}
use Rattle.solver_arrays.specs.Words.{reason_in}
use Rattle.solver_arrays.specs.declared.arrays.Arrays.{Arrays}

-- An emptied existential domain.
unfoldable pub emptied_in : ℕ → List ℕ → ℕ → Bool
emptied_in universal w x = not (bit universal x) && eqb (get_or w x 0) 0

module _ (A : Arrays) where
  -- A value of the mask u of x clashes with some value of the mask v of a universal k, or goes with none of a later existential k.
  unfoldable pub bars_in : ℕ → ℕ → ℕ → ℕ → Bool
  bars_in x k u v =
      let c = not (each 16 (bit u) (bit (common_in A k v x))) in
      let s = ltb x k && not (each 16 (bit u) (bit (supported_in A k v x))) in
      cond (bit A.universal k) c s

  -- The first variable of the mask m that bars a value of x, or 32.
  unfoldable pub barrier : List ℕ → ℕ → ℕ → ℕ
  barrier w x m = first 32 (λ k. bit m k && bars_in x k (get_or w x 0) (get_or w k 0))

-- For words in which no variable outside the mask touched bars a value.
module _ (A : Arrays) (touched : ℕ) (w : List ℕ) where
  -- A universal x with a value that a neighbour in the mask bars.
  unfoldable pub stopped : ℕ → Bool
  stopped x = let b = ltb (barrier A w x (bit_and (get_or A.near x 0) touched)) 32 in bit A.universal x && b

  -- The lowest stopped variable with its barrier.
  unfoldable pub stop : ℕ → Option (ℕ × ℕ)
  stop n = let y = first n stopped in cond (ltb y n) (Some (y, barrier A w y (bit_and (get_or A.near y 0) touched))) None

  -- A loss is an emptied variable, or a stopped one; its conflict set is that of the lowest.
  unfoldable pub loss : ℕ → Bool
  loss n = ltb (first n (emptied_in A.universal w)) n || ltb (first n stopped) n

  unfoldable pub conflict : ℕ → ℕ
  conflict n =
      let x = first n (emptied_in A.universal w) in
      let y = first n stopped in
      let two = cond (ltb y n) (bit_or (reason_in w y) (reason_in w (barrier A w y (bit_and (get_or A.near y 0) touched)))) 0 in
      cond (ltb x n) (reason_in w x) two
