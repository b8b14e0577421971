use Rattle.buffer.specs.Stored.{joined}
use Rattle.formula_clauses.specs.Lines.{Lines}
use Rattle.formula_clauses.specs.Clauses.{later_of}
use Rattle.formula_clauses.proofs.Clauses.put_constraints.Given as goal

abbrev pub invariant-loop-i : goal.invariant-loop-i
invariant-loop-i l = Lines l.initial.self (joined (later_of l.arrays) l.i) l.self
