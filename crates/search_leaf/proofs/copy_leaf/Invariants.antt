use mathlib.Core.Path.{◌≡◌}
use Rattle.search_leaf.specs.Leaf.{with_leaf}
use Rattle.search_leaf.proofs.copy_leaf.Given as goal

abbrev pub invariant-loop-j : goal.invariant-loop-j
invariant-loop-j l = l.w ≡ with_leaf l.j l.initial.w
