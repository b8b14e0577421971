use borrow.Author.Rules.{rules}
use Rattle.mask.specs.Mask.{bit}
use Rattle.mask.proofs.widths.U32Mask.holds.Goals as goal

pub returns : goal.returns
unfolding bit
returns c = search rules
