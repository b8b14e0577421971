use Rattle.buffer.specs.Stored.{joined}
use Rattle.formula_clauses.specs.Lines.{Lines}
use Rattle.formula_clauses.specs.Clauses.{pair_of}
use Rattle.formula_clauses.proofs.Clauses.put_later.Given as goal

abbrev pub invariant-loop-j : goal.invariant-loop-j
invariant-loop-j l = Lines l.initial.self (joined (pair_of l.arrays l.i) l.j) l.self
