use borrow.Author.Rules.{rules}
use borrow.Author.Tests.{le-ltb}
use mathlib.Core.Path.{sym, ◌∙◌}
use Rattle.mask.proofs.Bits.{bit_high}
use Rattle.mask.proofs.holds.Goals as goal

pub returns-else-k-lt16 : goal.returns-else-k-lt16
returns-else-k-lt16 c = le-ltb _ 16 (search rules) ∙ sym (bit_high 16 _ _ (search rules) (search rules))
