use Rattle.formula_text.proofs.TextLaws.{header_put}
use Rattle.formula_text.proofs.put_header.Goals as goal

pub returns : goal.returns
returns c = header_put _ _ c.put.ensures c.put_number.ensures c.put-2.ensures c.put_number-2.ensures c.put-3.ensures
