use lib.ListN.{get_or}
use lib.Bits.{bit_and}
use mathlib.Core.Path.{◌≡◌}
use Rattle.rule_arc_passes.specs.Over.{over}
use Rattle.rule_arc_passes.specs.Passes.{revise_in}
use Rattle.rule_arc_passes.proofs.look_from.Given as goal

abbrev pub invariant-loop-k : goal.invariant-loop-k
invariant-loop-k l =
    over (bit_and (get_or l.arrays.near l.x 0) l.waiting) 32 (λ k. revise_in l.arrays l.x k) l.initial.w ≡ over l.k-iterator.left 32 (λ k. revise_in l.arrays l.x k) l.w
