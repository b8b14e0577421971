use Rattle.formula_index.proofs.NumberLaws.{Passed}
use Rattle.formula_index.proofs.reading.number_at.Given as goal

abbrev pub invariant-loop-k : goal.invariant-loop-k
invariant-loop-k l = Passed l.t l.p l.k l.value
