use Rattle.buffer.specs.Put.{Put}
use Rattle.formula_words.specs.Words.{words_text}
use Rattle.formula_words.proofs.literals.put_words.Given as goal

abbrev pub invariant-loop-i : goal.invariant-loop-i
invariant-loop-i l = Put l.initial.t (words_text l.base l.i) l.t
