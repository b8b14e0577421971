use Rattle.formula_index.proofs.ChainLaws.{chained_none, chained_more}
use Rattle.formula_index.proofs.chains.read_clauses.Goals as goal

pub loop-k-init : goal.loop-k-init
loop-k-init c = chained_none

pub loop-k-preserved : goal.loop-k-preserved
loop-k-preserved c = chained_more c.loop-k.invariant c.requires.1 c.clause_at-x.ensures.last_value c.clause_at-x.ensures.after_bound
