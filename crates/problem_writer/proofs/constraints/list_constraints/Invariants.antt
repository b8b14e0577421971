use Rattle.problem_writer.proofs.ListingLaws.{ListedBelow}
use Rattle.problem_writer.proofs.constraints.list_constraints.Given as goal

abbrev pub invariant-loop-pair : goal.invariant-loop-pair
invariant-loop-pair l = ListedBelow l.arrays l.initial.numbers l.pair l.count l.numbers
