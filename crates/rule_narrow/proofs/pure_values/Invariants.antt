use Prim.Native.Nat.{◌<◌}
use lib.Bits.{bit_and}
use lib.ListN.{get_or}
use mathlib.Core.Path.{◌≡◌}
use Rattle.solver_arrays.specs.Arrays.{common_in}
use Rattle.rule_narrow.specs.Narrow.{common_to_all}
use Rattle.rule_narrow.proofs.pure_values.Given as goal

abbrev pub invariant-loop-j : goal.invariant-loop-j
invariant-loop-j l = (l.out < 65536) × (bit_and (get_or l.w l.x 0) (common_to_all l.arrays l.x l.w (get_or l.arrays.near l.x 0)) ≡ bit_and l.out (common_to_all l.arrays l.x l.w l.j-iterator.left))

abbrev pub invariant-loop-b : goal.invariant-loop-b
invariant-loop-b l = (l.out < 65536) × (bit_and l.initial.out (common_in l.arrays l.j (get_or l.w l.j 0) l.x) ≡ bit_and l.out (common_in l.arrays l.j l.b-iterator.left l.x))
