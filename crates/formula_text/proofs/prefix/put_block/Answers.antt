use Rattle.formula_text.proofs.LineLaws.{block_put}
use Rattle.formula_text.proofs.prefix.put_block.Goals as goal

pub returns : goal.returns
returns c = block_put _ _ _ c.coding_of-x.ensures c.put_opening.ensures c.put_words.ensures
