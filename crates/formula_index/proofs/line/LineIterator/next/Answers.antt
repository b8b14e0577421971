use Prim.Native.Nat.{◌+◌, ◌≤◌}
use borrow.Author.Tests.{eq-eqb, ne_eqb}
use mathlib.Core.Path.{◌≡◌, ◌∙◌}
use native.Mathlib.Omega.{arith}
use Rattle.formula.specs.Text.{number_from}
use Rattle.formula_index.proofs.LineLaws.{from_minus, from_plain, reads-empty, reads-zero, reads_one}
use Rattle.formula_index.proofs.line.LineIterator.next.Goals as goal
use Rattle.formula_index.proofs.line.LineIterator.next.Goals.{Joined-negative, then-negative, else-negative}

-- Where the number of the literal begins.
from_is : (c : Joined-negative) → (c.if-negative.from ≡ number_from c.args.self.now.text.now c.args.self.now.place) × (c.if-negative.from ≤ c.args.self.now.place + 1)
from_is c =
    elim c.if-negative.branch [
      | then-negative w ↦ (w.from-is ∙ from_minus _ _ c.byte_at-negative.ensures (eq-eqb _ 45 w.if-negative.true), omega arith)
      | else-negative w ↦ (w.from-is ∙ from_plain _ _ c.byte_at-negative.ensures (ne_eqb _ 45 w.if-negative.false), omega arith)
    ]

pub returns-then-self-eq0-clause-steps : goal.returns-then-self-eq0-clause-steps
returns-then-self-eq0-clause-steps c = reads-empty _ _ _ c.if-self-eq0.true

pub returns-then-x-eq0-clause-steps : goal.returns-then-x-eq0-clause-steps
returns-then-x-eq0-clause-steps c =
    let f = from_is (goal.at.returns-then-x-eq0-clause-steps c).Joined-negative in let e = c.number_at-x.ensures in
    reads-zero c.if-self-eq0.false c.byte_at-negative.ensures f.0 f.1 e.value_value e.value_bound.1 c.if-x-eq0.true

pub returns-clause-steps : goal.returns-clause-steps
returns-clause-steps c =
    let f = from_is (goal.at.returns-clause-steps c).Joined-negative in let e = c.number_at-x.ensures in
    reads_one c.if-self-eq0.false c.byte_at-negative.ensures f.0 f.1 e.value_value e.value_bound.1 c.if-x-eq0.false
