use Rattle.formula_words.proofs.CodingLaws.{coded_by}
use Rattle.formula_words.proofs.coded.coding_of.Goals as goal

pub returns : goal.returns
returns c =
    coded_by _ _ _ _ _ _ _ c.contains-universal.ensures c.size_of-size.ensures.0 c.base_of.ensures.0 c.width_of.ensures.0 c.ways_of.ensures
