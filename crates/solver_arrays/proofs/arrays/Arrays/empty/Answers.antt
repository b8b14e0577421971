use mathlib.Core.Path.{refl}
use native.Mathlib.Omega.{arith}
use Rattle.solver_arrays.proofs.EmptyLaws.{zeros_in_range}
use Rattle.solver_arrays.proofs.arrays.Arrays.empty.Goals as goal

pub invariant_of-result : goal.invariant_of-result
invariant_of-result c = record { first = omega arith; most = omega arith; some = omega arith; in_range = zeros_in_range 1024 }

pub returns : goal.returns
returns c = record { own = refl; n = refl; universal = refl; domains = refl; near = refl; index = refl; rows = refl }
