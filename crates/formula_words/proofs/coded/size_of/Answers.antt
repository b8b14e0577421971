use native.Mathlib.Omega.{arith}
use Rattle.mask.specs.Mask.{bit}
use Rattle.mask.proofs.Range.{count-bound}
use Rattle.formula_words.proofs.coded.size_of.Goals as goal

pub returns : goal.returns
returns c = (c.count_of.ensures, omega (arith, c.count_of.ensures, count-bound 16 (bit c.args.domain)))
