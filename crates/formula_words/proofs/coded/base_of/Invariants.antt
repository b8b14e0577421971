use Prim.Native.Nat.{◌*◌, ◌≤◌}
use mathlib.Core.Path.{◌≡◌}
use Rattle.formula_words.specs.Coding.{base_in}
use Rattle.formula_words.proofs.coded.base_of.Given as goal

abbrev pub invariant-loop-k : goal.invariant-loop-k
invariant-loop-k l = (l.base ≤ 16 * l.k) × (l.base ≡ base_in l.arrays l.k)
