use Prim.Native.Nat.{ℕ, ◌<◌}
use Rattle.search_leaf.specs.Leaf.{first_clash}
use Rattle.search_leaf.proofs.first_broken.Given as goal

abbrev pub invariant-loop-x : goal.invariant-loop-x
invariant-loop-x l = (k : ℕ) → k < l.x → ¬ (first_clash l.arrays l.w k < 32)
