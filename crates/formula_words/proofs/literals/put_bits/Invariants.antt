use Rattle.buffer.specs.Put.{Put}
use Rattle.formula_words.specs.Words.{literals_text, bits_denied}
use Rattle.formula_words.proofs.literals.put_bits.Given as goal

abbrev pub invariant-loop-i : goal.invariant-loop-i
invariant-loop-i l = Put l.initial.t (literals_text (bits_denied l.base l.i l.c)) l.t
