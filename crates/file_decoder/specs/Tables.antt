-- The arrays after the first k constraints of those that stand from q on in a file. Constraint t of the pair (i, j) has the blocks 2t + 1,
-- from i towards j, and 2t + 2, from j towards i.
use Rattle.std.specs.Prelude.{ℕ, zero, suc, ◌+◌, ◌*◌, ◌^◌, ◌≡◌, ◌<◌, List, get_or, set, replicate}
use Rattle.std.specs.Int.Bits.{bit_or}
use Rattle.mask.specs.Mask.{bit, mask_of}
use Rattle.solver_arrays.specs.declared.arrays.Arrays.{Arrays}
use Rattle.file_constraints.specs.Constraints.{constraint_one, constraint_two, constraint_row}

-- The values of i that go with value b of j, of constraint t.
unfoldable pub column_of : List ℕ → ℕ → ℕ → ℕ → ℕ
column_of f q t b = mask_of 16 (λ a. bit (constraint_row f q t a) b)

-- What a closure returns at each of 16 places.
abbrev pub Gives : (ℕ → ℕ → Type 0) → (ℕ → ℕ) → Type 0
Gives post r = (a x : ℕ) → a < 16 → post a x → x ≡ r a

-- l with g 0, .., g (k - 1) from base on.
unfoldable pub put_to : List ℕ → ℕ → (ℕ → ℕ) → ℕ → List ℕ
put_to l base g zero = l
put_to l base g (suc k) = set (put_to l base g k) (base + k) (g k)

-- j made a neighbour of i; each made one of the other; the blocks of constraint t given to the pair.
unfoldable pub added : List ℕ → ℕ → ℕ → List ℕ
added l i j = set l i (bit_or (get_or l i 0) (2 ^ j))

unfoldable pub linked : List ℕ → ℕ → ℕ → List ℕ
linked l i j = added (added l i j) j i

unfoldable pub numbered : List ℕ → ℕ → ℕ → ℕ → List ℕ
numbered l i j t = set (set l (32 * i + j) (2 * t + 1)) (32 * j + i) (2 * t + 2)

-- The blocks of constraint t: its rows from the lower variable towards the higher, and back.
unfoldable pub blocks : List ℕ → ℕ → (ℕ → ℕ) → (ℕ → ℕ) → List ℕ
blocks l t row column = put_to (put_to l (32 * t + 16) row 16) (32 * t + 32) column 16

-- Constraint t entered.
unfoldable pub near_with : List ℕ → List ℕ → ℕ → ℕ → List ℕ
near_with l f q t = linked l (constraint_one f q t) (constraint_two f q t)

unfoldable pub index_with : List ℕ → List ℕ → ℕ → ℕ → List ℕ
index_with l f q t = numbered l (constraint_one f q t) (constraint_two f q t) t

unfoldable pub rows_with : List ℕ → List ℕ → ℕ → ℕ → List ℕ
rows_with l f q t = blocks l t (constraint_row f q t) (column_of f q t)

-- The first k constraints entered.
unfoldable pub near_to : List ℕ → List ℕ → ℕ → ℕ → List ℕ
near_to l f q zero = l
near_to l f q (suc k) = near_with (near_to l f q k) f q k

unfoldable pub index_to : List ℕ → List ℕ → ℕ → ℕ → List ℕ
index_to l f q zero = l
index_to l f q (suc k) = index_with (index_to l f q k) f q k

unfoldable pub rows_to : List ℕ → List ℕ → ℕ → ℕ → List ℕ
rows_to l f q zero = l
rows_to l f q (suc k) = rows_with (rows_to l f q k) f q k

-- Before the first: no neighbours, block 0 for every pair, and ones only in it.
unfoldable pub near_start : List ℕ
near_start = replicate 32 0

unfoldable pub index_start : List ℕ
index_start = replicate 1024 0

unfoldable pub rows_start : List ℕ
rows_start = replicate 15888 65535

-- Arrays of the same variables.
pub record SameVariables (A B : Arrays) : Type 0 where
  pub own : B.own ≡ A.own
  pub n : B.n ≡ A.n
  pub universal : B.universal ≡ A.universal
  pub domains : B.domains ≡ A.domains
