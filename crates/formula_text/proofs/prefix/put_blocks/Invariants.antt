use Rattle.buffer.specs.Stored.{joined}
use Rattle.buffer.specs.Put.{Put}
use Rattle.formula_text.specs.Body.{block_text}
use Rattle.formula_text.proofs.prefix.put_blocks.Given as goal

abbrev pub invariant-loop-i : goal.invariant-loop-i
invariant-loop-i l = Put l.initial.t (joined (block_text l.arrays) l.i) l.t
