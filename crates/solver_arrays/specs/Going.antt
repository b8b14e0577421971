-- The values of a variable that go with values played, over the arrays; `values` holds these at the first places.
use Rattle.std.specs.Prelude.{ℕ, zero, suc, ◌%◌, List, get_or}
use Rattle.std.specs.Int.Bits.{bit_and}
use Rattle.solver_arrays.specs.declared.arrays.Arrays.{Arrays}
use Rattle.solver_arrays.specs.Arrays.{row_in}

-- The value played at place i, cut to 16.
unfoldable pub value_at : List ℕ → ℕ → ℕ
value_at values i = get_or values i 0 % 16

-- The values in m of variable j that go with each of the first k values played.
unfoldable pub going_with : Arrays → List ℕ → ℕ → ℕ → ℕ → ℕ
going_with A values zero m j = m
going_with A values (suc k) m j = bit_and (going_with A values k m j) (row_in A k (value_at values k) j)
