use Prim.Native.Nat.{◌<◌}
use lib.Bits.{bit_and}
use mathlib.Core.Path.{◌≡◌}
use Rattle.solver_arrays.specs.Arrays.{common_in}
use Rattle.solver_arrays.proofs.arrays.Arrays.common.Given as goal

abbrev pub invariant-loop-a : goal.invariant-loop-a
invariant-loop-a l = (l.out < 65536) × (common_in l.self l.i l.fn.m l.j ≡ bit_and l.out (common_in l.self l.i l.a-iterator.left l.j))
