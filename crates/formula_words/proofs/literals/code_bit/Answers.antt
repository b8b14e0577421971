use mathlib.Core.Path.{sym}
use native.Mathlib.Omega.{arith}
use borrow.Author.Tests.{le-ltb}
use Rattle.mask.proofs.Bits.{bit_high}
use Rattle.formula_words.proofs.literals.code_bit.Goals as goal

pub returns-else-i-lt64 : goal.returns-else-i-lt64
returns-else-i-lt64 c = rw (le-ltb _ _ c.if-i-lt64.false) (sym (bit_high 64 c.args.c c.args.i (omega arith) c.if-i-lt64.false))
