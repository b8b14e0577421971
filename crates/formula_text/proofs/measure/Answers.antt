use Rattle.formula_text.proofs.WholeText.{measured}
use Rattle.formula_text.proofs.measure.Goals as goal

pub returns : goal.returns
returns c = measured _ c.new-t.ensures.place c.put_body-clauses.ensures c.booleans.ensures c.put_header.ensures
