use mathlib.Core.Path.{refl}
use native.Mathlib.Numerals.{add-one}
use native.Mathlib.Omega.{arith}
use Rattle.search_leaf.proofs.LeafWords.{leaf-next}
use Rattle.search_leaf.specs.Leaf.{with_leaf}
use Rattle.search_leaf.proofs.copy_leaf.Goals as goal

pub loop-j-init : goal.loop-j-init
unfolding with_leaf
loop-j-init c = refl

pub loop-j-preserved : goal.loop-j-preserved
loop-j-preserved c = rw add-one (leaf-next _ _ _ _ (omega arith) c.loop-j.invariant c.value_of.ensures.0)
