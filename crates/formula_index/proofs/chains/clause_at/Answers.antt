use mathlib.Core.Path.{ap}
use Rattle.formula_index.specs.Chains.{last_from}
use Rattle.formula_index.proofs.LineLaws.{going_next, going_end}
use Rattle.formula_index.proofs.chains.clause_at.Goals as goal

pub loop-x-preserved : goal.loop-x-preserved
unfolding last_from
loop-x-preserved c = going_next c.loop-x.invariant _ c.in-Some.ensures.steps (λ l ls e. ap (λ d. last_from d ls) e)

-- At the line's end the boolean passed last is the clause's last one.
pub returns : goal.returns
unfolding last_from
returns c = let g = going_end c.loop-x.invariant c.in_default.ensures.steps in record { last_value = (g.gives, g.ends); after_bound = g.near }
