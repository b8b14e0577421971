use mathlib.Core.Path.{◌∙◌}
use native.Mathlib.Omega.{arith}
use lib.Pow.{pow_pos}
use Rattle.mask.proofs.Members.{count-below}
use Rattle.formula_words.proofs.coded.place_of.Goals as goal

pub overflow_sub-single : goal.overflow_sub-single
overflow_sub-single c = omega (arith, c.single.ensures, pow_pos c.args.a)

pub returns : goal.returns
returns c = (c.size_of.ensures.0 ∙ rw (c.meet.ensures, c.single.ensures) (count-below 16 _ _ (omega arith)), c.size_of.ensures.1)
