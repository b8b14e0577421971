use Rattle.buffer.specs.Stored.{joined}
use Rattle.buffer.proofs.PutLaws.{put_none}
use Rattle.formula_words.specs.Words.{words_text}
use Rattle.formula_words.proofs.WordLaws.{words_more}
use Rattle.formula_words.proofs.literals.put_words.Goals as goal

pub loop-i-init : goal.loop-i-init
unfolding words_text joined
loop-i-init c = put_none _

pub loop-i-preserved : goal.loop-i-preserved
loop-i-preserved c = words_more _ _ c.loop-i.invariant c.put_word.ensures
