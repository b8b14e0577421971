use Rattle.mask.proofs.Chains.{took_lt}
use Rattle.formula_clauses.specs.Clauses.{row_of}
use Rattle.formula_clauses.proofs.LineLaws.{lines_member, lines_empty}
use Rattle.formula_clauses.proofs.Clauses.put_row.Goals as goal

pub loop-b-init : goal.loop-b-init
unfolding row_of
loop-b-init c = rw (c.into_iter-b-iterator.ensures.into_iter_gives, c.members_of-b-items.ensures) (λ u p. p)

pub place_of-requires : goal.place_of-requires
place_of-requires c = took_lt c.in-Some.ensures.steps

pub loop-b-preserved : goal.loop-b-preserved
loop-b-preserved c = λ u p. c.loop-b.invariant u (lines_member c.in-Some.ensures.steps _ (rw c.place_of.ensures.0 at c.put_clash.ensures) p)

pub returns : goal.returns
returns c = c.loop-b.invariant _ (lines_empty _ _ _ c.in-None.ensures.steps.0)
