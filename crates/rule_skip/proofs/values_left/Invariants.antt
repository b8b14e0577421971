use Prim.Native.Nat.{◌<◌}
use lib.Bits.{bit_and}
use lib.ListN.{get_or}
use mathlib.Core.Path.{◌≡◌}
use Rattle.rule_skip.specs.Skip.{left_of}
use Rattle.rule_skip.proofs.values_left.Given as goal

abbrev pub invariant-loop-j : goal.invariant-loop-j
invariant-loop-j l =
    (l.out < 65536) × (bit_and l.m (left_of l.arrays l.later l.i l.w (get_or l.arrays.near l.i 0)) ≡ bit_and l.out (left_of l.arrays l.later l.i l.w l.j-iterator.left))
