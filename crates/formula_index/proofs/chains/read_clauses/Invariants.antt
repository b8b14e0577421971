use Rattle.formula_index.proofs.ChainLaws.{Chained}
use Rattle.formula_index.proofs.chains.read_clauses.Given as goal

abbrev pub invariant-loop-k : goal.invariant-loop-k
invariant-loop-k l = Chained l.t l.most l.p l.initial.start l.initial.next l.initial.head l.start l.next l.head l.q l.k
