use Rattle.search_run.specs.Run.{room_words}
use Rattle.marking.proofs.MarkLaws.{Marking}
use Rattle.marking.proofs.values.winning_values.Given as goal

abbrev pub invariant-loop-a : goal.invariant-loop-a
invariant-loop-a l = Marking l.arrays l.s.set.bits l.s.position (room_words l.arrays.n) l.initial.room l.m l.room l.won l.a-iterator.left
