use Rattle.formula.specs.Text.{quantified}
use Rattle.formula_index.specs.Marked.{marked}
use Rattle.formula_index.proofs.LineLaws.{going_next, going_end}
use Rattle.formula_index.proofs.MarkedLaws.{marked_next}
use Rattle.formula_index.proofs.prefix.read_line.Goals as goal

pub loop-x-preserved : goal.loop-x-preserved
loop-x-preserved c = going_next c.loop-x.invariant _ c.in-Some.ensures.steps (λ l ls e. marked_next _ _ _ ls e)

pub returns : goal.returns
unfolding marked quantified
returns c = let g = going_end c.loop-x.invariant c.in_default.ensures.steps in record { value = (g.ends, g.near); sides_after = g.gives }
