use lib.Dec.{T}
use mathlib.Core.Path.{◌≡◌}
use Prim.Native.Nat.{ℕ}
use Rattle.mask.specs.Mask.{bit}
use Rattle.game.specs.Problem.{Problem}
use Rattle.game.specs.Lists.{domains}
use Rattle.game.specs.Pure.{clash_variable, clash_value}
use Rattle.solver_arrays.specs.Arrays.{States}
use Rattle.solver_arrays.specs.Words.{list_in}
use Rattle.rule_narrow.proofs.NameLaws.{passed_to}
use Rattle.rule_narrow.proofs.names.pure_names.Given as goal

abbrev pub invariant-loop-a : goal.invariant-loop-a
invariant-loop-a l =
    ((k : ℕ) → T (bit l.a-iterator.left k) → T (bit l.impure k))
    × ((P : Problem) → States P l.arrays.n l.arrays → let D = domains (list_in l.arrays.n l.w) in
    (l.variables ≡ passed_to l.impure l.a-iterator.left (clash_variable P D l.x)) × (l.values ≡ passed_to l.impure l.a-iterator.left (clash_value P D l.x)))
