use borrow.Author.Rules.{rules}
use Rattle.mask.proofs.Chains.{took_lt}
use Rattle.formula_clauses.specs.Clauses.{value_of, constraint_of}
use Rattle.formula_clauses.proofs.LineLaws.{lines_member, lines_empty}
use Rattle.formula_clauses.proofs.Clauses.put_constraint.Goals as goal

pub loop-a-init : goal.loop-a-init
unfolding value_of constraint_of
loop-a-init c = rw (c.into_iter-a-iterator.ensures.into_iter_gives, c.members_of-a-items.ensures) (λ u p. p)

pub row-requires : goal.row-requires
row-requires c = let l = took_lt c.in-Some.ensures.steps in search rules

pub place_of-requires : goal.place_of-requires
place_of-requires c = took_lt c.in-Some.ensures.steps

pub loop-a-preserved : goal.loop-a-preserved
loop-a-preserved c =
    λ u p. c.loop-a.invariant u (lines_member c.in-Some.ensures.steps _ (rw (c.place_of.ensures.0, c.difference-bad.ensures, c.row.ensures) at c.put_row.ensures) p)

pub returns : goal.returns
returns c = c.loop-a.invariant _ (lines_empty _ _ _ c.in-None.ensures.steps.0)
