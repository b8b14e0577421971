use Rattle.mask.specs.Range.{count}
use Rattle.mask.specs.Mask.{bit, diff}
use Rattle.buffer.specs.Stored.{joined}
use Rattle.formula.specs.Formula.{only_if}
use Rattle.solver_arrays.specs.Arrays.{row_in}
use Rattle.formula_clauses.specs.Lines.{Lines}
use Rattle.formula_clauses.specs.Clauses.{row_of, constraint_of}
use Rattle.formula_clauses.specs.declared.Clauses.{Clauses}
use Rattle.formula_clauses.proofs.Clauses.put_constraint.Given as goal

-- With the clashes of the members that are left, all are put.
abbrev pub invariant-loop-a : goal.invariant-loop-a
invariant-loop-a l =
    (u : Clauses) → Lines l.self (joined (λ a. only_if (bit l.a-iterator.left a) (row_of l.x (count a (bit l.x.domain)) l.y (diff l.y.domain (row_in l.arrays l.i a l.j)))) 16) u
    → Lines l.initial.self (constraint_of l.arrays l.i l.x l.j l.y) u
