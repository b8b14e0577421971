use borrow.Author.Rules.{rules}
use Rattle.buffer.proofs.PutLaws.{put_behind}
use Rattle.formula_text.proofs.WholeText.{printed}
use Rattle.formula_text.proofs.put_formula.Goals as goal

pub returns : goal.returns
returns c =
    let b = c.put_body.ensures in
    let p = put_behind c.put_header.ensures b.text in
    printed _ c.new-t.ensures.place c.new-t.ensures.buffer c.booleans.ensures c.put_header.ensures b (search rules)
