-- The arrays of a problem. The word 32 i + j of the index is the number of the block of rows from i towards j, 0 where no constraint joins
-- them; block e has 16 rows from 16 e on, and block 0 holds ones only, so a free pair needs no test. near holds each variable's neighbours as a mask.
use Rattle.std.specs.Prelude.{◌≡◌, ℕ, ◌+◌, ◌*◌, ◌≤◌, ◌<◌, get_or, take, replicate}
use Rattle.mask.specs.Range.{some, each}
use Rattle.mask.specs.Mask.{bit, mask_of}
use Rattle.game.specs.Problem.{Problem}
use Rattle.solver_arrays.specs.declared.arrays.Arrays.{Arrays}

-- Row a of variable i towards j: the values of j that go with value a of i.
unfoldable pub row_in : Arrays → ℕ → ℕ → ℕ → ℕ
row_in A i a j = get_or A.rows (16 * get_or A.index (32 * i + j) 0 + a) 0

-- The values of j that go with some value of the mask m of i, and with each.
unfoldable pub supported_in : Arrays → ℕ → ℕ → ℕ → ℕ
supported_in A i m j = mask_of 16 (λ b. some 16 (bit m) (λ a. bit (row_in A i a j) b))

unfoldable pub common_in : Arrays → ℕ → ℕ → ℕ → ℕ
common_in A i m j = mask_of 16 (λ b. each 16 (bit m) (λ a. bit (row_in A i a j) b))

-- The arrays of one variable without a value, none of which is to play, and no constraint.
pub record Empty (A : Arrays) : Type 0 where
  pub own : A.own ≡ 0
  pub n : A.n ≡ 1
  pub universal : A.universal ≡ 0
  pub domains : A.domains ≡ replicate 32 0
  pub near : A.near ≡ replicate 32 0
  pub index : A.index ≡ replicate 1024 0
  pub rows : A.rows ≡ replicate 15888 65535

-- The arrays state the problem P, of n variables.
pub record States (P : Problem) (n : ℕ) (A : Arrays) : Type 0 where
  pub size : P.n ≡ n
  pub most : n ≤ 32
  pub side : (i : ℕ) → i < n → P.universal i ≡ bit A.universal i
  pub joined : (i j : ℕ) → i < n → j < n → P.constrained i j ≡ bit (get_or A.near i 0) j
  pub inside : (i j : ℕ) → i < n → n ≤ j → bit (get_or A.near i 0) j ≡ bit 0 j
  pub row : (i a j b : ℕ) → i < n → a < 16 → j < n → b < 16 → P.compatible i a j b ≡ bit (row_in A i a j) b

-- They state it with all their variables and domains.
pub record Poses (P : Problem) (A : Arrays) : Type 0 where
  pub states : States P A.n A
  pub domain : P.domain ≡ take A.n A.domains

-- They do so for some problem: without one nothing is known of the words between two steps of a run.
pub record Posed (A : Arrays) : Type 0 where
  pub problem : Problem
  pub poses : Poses problem A
