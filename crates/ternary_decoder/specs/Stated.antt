-- What arrays state when the first r three-way constraints of J are entered, behind m constraints of two variables.
use Rattle.std.specs.Prelude.{ℕ, ◌+◌, ◌*◌, ◌≡◌, ◌≤◌, ◌<◌, get_or, length}
use Rattle.game.specs.Ternary.{TernaryProblem}
use Rattle.ternary_theory.specs.Expanded.{compatible_with, constrained_with, universal_with, domain_with}
use Rattle.mask.specs.Mask.{bit}
use Rattle.solver_arrays.specs.declared.arrays.Arrays.{Arrays}
use Rattle.solver_arrays.specs.Arrays.{row_in}

-- The parts of the ordinary problem that speak of its first n + r variables; the words of all further ones are untouched, and so are the blocks of further constraints.
pub record TernaryStated (J : TernaryProblem) (m r : ℕ) (A : Arrays) : Type 0 where
  pub own : A.own ≡ J.binary.n
  pub size : A.n ≡ J.binary.n + r
  pub side : (i : ℕ) → i < J.binary.n + r → universal_with J i ≡ bit A.universal i
  pub joined : (i j : ℕ) → i < J.binary.n + r → j < J.binary.n + r → constrained_with J i j ≡ bit (get_or A.near i 0) j
  pub inside : (i j : ℕ) → i < 32 → J.binary.n + r ≤ j → bit (get_or A.near i 0) j ≡ bit 0 j
  pub row : (i a j b : ℕ) → i < J.binary.n + r → a < 16 → j < J.binary.n + r → b < 16 → compatible_with J i a j b ≡ bit (row_in A i a j) b
  pub domain : (i : ℕ) → i < J.binary.n + r → get_or (domain_with J) i 0 ≡ get_or A.domains i 0
  pub free : (i j : ℕ) → i < 32 → j < 32 → J.binary.n + r ≤ j → (get_or A.index (32 * i + j) 0 ≡ 0) × (get_or A.index (32 * j + i) 0 ≡ 0)
  pub blank : (i : ℕ) → J.binary.n + r ≤ i → get_or A.near i 0 ≡ 0
  pub blocks : (k : ℕ) → get_or A.index k 0 ≤ 2 * (m + 3 * r)
  pub ones : (x : ℕ) → x < 16 → get_or A.rows x 0 ≡ 65535
  pub near_long : length A.near ≡ 32
  pub index_long : length A.index ≡ 1024
  pub rows_long : length A.rows ≡ 15888
  pub domains_long : length A.domains ≡ 32
