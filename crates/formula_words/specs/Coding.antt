-- What is coded of a variable, over the decoded arrays: `size`, `width`, `ways` and `base` of formula/specs/Encoding.antt.
use Rattle.std.specs.Prelude.{ℕ, zero, suc, ◌+◌, ◌≤◌, get_or}
use Rattle.mask.specs.Range.{count}
use Rattle.mask.specs.Mask.{bit}
use Rattle.formula.specs.Encoding.{width_for, ways_for}
use Rattle.solver_arrays.specs.declared.arrays.Arrays.{Arrays}
use Rattle.formula_words.specs.declared.coded.Coded.{Coded}

unfoldable pub size_in : Arrays → ℕ → ℕ
size_in A i = count 16 (bit (get_or A.domains i 0))

unfoldable pub base_in : Arrays → ℕ → ℕ
base_in A zero = 0
base_in A (suc i) = base_in A i + width_for (bit A.universal i) (size_in A i)

unfoldable pub coded_in : Arrays → ℕ → Coded
coded_in A i = record {
  universal = bit A.universal i;
  base = base_in A i;
  size = size_in A i;
  width = width_for (bit A.universal i) (size_in A i);
  ways = ways_for (bit A.universal i) (size_in A i);
  domain = get_or A.domains i 0;
}

-- Its numbers are small; so they are for every variable (`coded_bounded`).
pub record Bounded (x : Coded) : Type 0 where
  pub base : x.base ≤ 512
  pub size : x.size ≤ 16
  pub width : x.width ≤ 16
