use mathlib.Core.Path.{sym}
use native.Mathlib.Omega.{arith}
use Rattle.formula.proofs.BitLaws.{bits_one, bits_more}
use Rattle.formula_words.proofs.coded.bits_for.Goals as goal

pub returns-then-d-le2 : goal.returns-then-d-le2
returns-then-d-le2 c = (sym (bits_one _ c.if-d-le2.true), omega arith)

pub returns-then-d-le4 : goal.returns-then-d-le4
returns-then-d-le4 c = (sym (bits_more _ 0 (omega arith) (omega arith) (omega arith)), omega arith)

pub returns-then-d-le8 : goal.returns-then-d-le8
returns-then-d-le8 c = (sym (bits_more _ 1 (omega arith) (omega arith) (omega arith)), omega arith)

pub returns-else-d-le8 : goal.returns-else-d-le8
returns-else-d-le8 c = (sym (bits_more _ 2 (omega arith) (omega arith) (omega arith)), omega arith)
