use mathlib.Core.Path.{refl}
use native.Mathlib.Omega.{arith}
use Rattle.formula_words.specs.Coding.{base_in}
use Rattle.formula_words.proofs.CodingLaws.{base_more}
use Rattle.formula_words.proofs.coded.base_of.Goals as goal

pub loop-k-init : goal.loop-k-init
unfolding base_in
loop-k-init c = (omega arith, refl)

pub loop-k-preserved : goal.loop-k-preserved
loop-k-preserved c = (omega arith, base_more _ _ _ _ _ _ c.loop-k.invariant.1 c.contains.ensures c.size_of.ensures.0 c.width_of-base.ensures.0)
