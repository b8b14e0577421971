use Rattle.buffer.specs.Stored.{joined}
use Rattle.buffer.proofs.PutLaws.{put_none}
use Rattle.formula_words.specs.Words.{literals_text, bits_denied}
use Rattle.formula_words.proofs.WordLaws.{bits_more}
use Rattle.formula_words.proofs.literals.put_bits.Goals as goal

pub loop-i-init : goal.loop-i-init
unfolding literals_text bits_denied joined
loop-i-init c = put_none _

pub loop-i-preserved : goal.loop-i-preserved
loop-i-preserved c = bits_more _ c.loop-i.i _ _ c.code_bit-set.ensures c.loop-i.invariant c.put_literal.ensures
