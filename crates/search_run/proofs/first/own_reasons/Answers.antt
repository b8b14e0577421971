use Rattle.search_run.proofs.FirstLaws.{own_none, own_more}
use Rattle.search_run.proofs.first.own_reasons.Goals as goal

pub loop-k-init : goal.loop-k-init
loop-k-init c = own_none _

pub loop-k-preserved : goal.loop-k-preserved
loop-k-preserved c = own_more _ _ _ _ _ c.loop-k.invariant c.single.ensures c.put_reason.ensures
