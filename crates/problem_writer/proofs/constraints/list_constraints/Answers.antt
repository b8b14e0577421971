use mathlib.Core.Path.{sym, ◌∙◌}
use native.Mathlib.Omega.{arith}
use Rattle.problem_writer.proofs.ListingLaws.{listed_none, listed_more, listed_kept, listed_few, listed_all}
use Rattle.problem_writer.proofs.constraints.list_constraints.Goals as goal
use Rattle.problem_writer.proofs.constraints.list_constraints.Goals.{then-is_pair, else-is_pair}

pub loop-pair-init : goal.loop-pair-init
loop-pair-init c = listed_none _ _

pub put_constraint-requires : goal.put_constraint-requires
put_constraint-requires c =
    let t = listed_few _ c.loop-pair.invariant c.loop-pair-test.true (sym c.is_pair.ensures ∙ c.if-is_pair.true) in
    (t, omega (arith, c.args.arrays.now.most), omega arith)

pub overflow_add-count : goal.overflow_add-count
overflow_add-count c =
    let t = listed_few _ c.loop-pair.invariant c.loop-pair-test.true (sym c.is_pair.ensures ∙ c.if-is_pair.true) in
    omega (arith, t)

pub loop-pair-preserved : goal.loop-pair-preserved
loop-pair-preserved c =
    elim c.if-is_pair.branch [
      | then-is_pair w ↦ listed_more _ c.loop-pair.invariant (sym c.is_pair.ensures ∙ w.if-is_pair.true) w.count-is (w.numbers-is ∙ w.put_constraint.ensures)
      | else-is_pair w ↦ listed_kept _ c.loop-pair.invariant (sym c.is_pair.ensures ∙ w.if-is_pair.false) w.count-is w.numbers-is
    ]

pub returns : goal.returns
returns c = listed_all _ (omega arith) c.loop-pair.invariant
