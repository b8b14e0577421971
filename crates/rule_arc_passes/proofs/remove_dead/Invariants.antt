use Prim.Native.Nat.{◌*◌, ◌-◌}
use mathlib.Core.Path.{◌≡◌}
use Rattle.rule_arc_passes.specs.Passes.{passes_in, Touched}
use Rattle.rule_arc_passes.proofs.remove_dead.Given as goal

abbrev pub invariant-loop : goal.invariant-loop
invariant-loop l =
    (passes_in l.arrays l.arrays.n (16 * l.arrays.n) l.changed (record { dirty = l.changed; words = l.initial.w }) ≡ passes_in l.arrays l.arrays.n (16 * l.arrays.n - l.counter) l.all (record { dirty = l.dirty; words = l.w }))
    × Touched l.changed l.touched l.initial.w l.w
