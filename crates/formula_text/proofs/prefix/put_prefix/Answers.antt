use Rattle.formula_text.proofs.LineLaws.{prefix_put}
use Rattle.formula_text.proofs.prefix.put_prefix.Goals as goal

pub returns : goal.returns
returns c = prefix_put _ c.put_blocks.ensures c.put_fresh.ensures c.put_end.ensures
