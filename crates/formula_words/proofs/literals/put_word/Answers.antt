use Rattle.buffer.proofs.PutLaws.{put_behind}
use Rattle.formula_words.proofs.literals.put_word.Goals as goal

pub returns : goal.returns
returns c = put_behind c.put_number.ensures c.put_byte.ensures
