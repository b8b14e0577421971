use Rattle.formula_text.proofs.TextLaws.{booleans_by}
use Rattle.formula_text.proofs.booleans.Goals as goal

pub returns : goal.returns
returns c = booleans_by _ c.closes.ensures c.all_booleans.ensures.0 c.from.ensures
