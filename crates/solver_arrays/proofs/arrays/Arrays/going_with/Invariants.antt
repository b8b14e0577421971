use mathlib.Core.Path.{◌≡◌}
use Rattle.solver_arrays.specs.Going.{going_with}
use Rattle.solver_arrays.proofs.arrays.Arrays.going_with.Given as goal

abbrev pub invariant-loop-i : goal.invariant-loop-i
invariant-loop-i l = l.out ≡ going_with l.self l.values l.i l.m l.j
