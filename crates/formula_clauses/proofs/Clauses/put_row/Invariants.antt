use Rattle.mask.specs.Range.{count}
use Rattle.mask.specs.Mask.{bit}
use Rattle.buffer.specs.Stored.{joined}
use Rattle.formula.specs.Formula.{only_if}
use Rattle.formula_clauses.specs.Lines.{Lines}
use Rattle.formula_clauses.specs.Clauses.{clash_of, row_of}
use Rattle.formula_clauses.specs.declared.Clauses.{Clauses}
use Rattle.formula_clauses.proofs.Clauses.put_row.Given as goal

-- With the clashes of the members that are left, all are put.
abbrev pub invariant-loop-b : goal.invariant-loop-b
invariant-loop-b l =
    (u : Clauses) → Lines l.self (joined (λ b. only_if (bit l.b-iterator.left b) (clash_of l.x l.p l.y (count b (bit l.y.domain)))) 16) u
    → Lines l.initial.self (row_of l.x l.p l.y l.fn.bad) u
