-- The number of unplayed variables falls. The loops keep SomeLoop and EachLoop of LoopLaws.
use Prim.Native.Nat.{◌+◌, ◌-◌, ◌*◌}
use Rattle.mask.specs.Range.{first}
use Rattle.mask.specs.Mask.{bit}
use Rattle.search_steps.specs.TurnReply.{room_of}
use Rattle.search_turns.proofs.LoopLaws.{SomeLoop, EachLoop}
use Rattle.search_turns.proofs.+turns.Given as goal

abbrev pub decreases-turn : goal.decreases-turn
decreases-turn l = 2 * (l.arrays.now.n - l.d) + 1

abbrev pub decreases-existential_turn : goal.decreases-existential_turn
decreases-existential_turn l = 2 * (l.arrays.now.n - l.d)

abbrev pub decreases-universal_turn : goal.decreases-universal_turn
decreases-universal_turn l = 2 * (l.arrays.now.n - l.d)

abbrev pub invariant-existential_turn-loop-a : goal.invariant-existential_turn-loop-a
invariant-existential_turn-loop-a l =
    SomeLoop l.arrays.n l.arrays l.set.bits l.d (room_of l.arrays.n l.d) l.initial.room l.initial.joined l.initial.a-iterator.left l.room l.joined l.a-iterator.left

abbrev pub invariant-universal_turn-loop-left : goal.invariant-universal_turn-loop-left
invariant-universal_turn-loop-left l =
    EachLoop l.arrays.n l.arrays l.set.bits l.d (room_of l.arrays.n l.d) l.initial.room l.initial.left l.room l.left

abbrev pub decreases-universal_turn-loop-left : goal.decreases-universal_turn-loop-left
decreases-universal_turn-loop-left l = 16 - first 16 (bit l.left)
