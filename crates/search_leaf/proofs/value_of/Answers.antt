use Prim.Native.Nat.{◌%◌}
use borrow.Author.Rules.{rules}
use mathlib.Core.Path.{ap}
use Rattle.search_leaf.specs.Leaf.{value_of}
use Rattle.search_leaf.proofs.value_of.Goals as goal

pub returns : goal.returns
unfolding value_of
returns c = (ap (λ a. a % 16) c.lowest.ensures, search rules)
