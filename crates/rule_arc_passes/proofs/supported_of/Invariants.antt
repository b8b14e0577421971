use Prim.Native.Nat.{◌<◌}
use lib.Bits.{bit_or}
use mathlib.Core.Path.{◌≡◌}
use Rattle.solver_arrays.specs.Arrays.{supported_in}
use Rattle.rule_arc_passes.proofs.supported_of.Given as goal

abbrev pub invariant-loop-left : goal.invariant-loop-left
invariant-loop-left l = (l.out < 65536) × (l.left < 65536) × (supported_in l.arrays l.k l.m l.x ≡ bit_or l.out (supported_in l.arrays l.k l.left l.x))

abbrev pub decreases-loop-left : goal.decreases-loop-left
decreases-loop-left l = l.left
