use Prim.Native.Nat.{◌-◌}
use mathlib.Core.Path.{◌≡◌}
use Rattle.game.specs.Reasons.{loop}
use Rattle.rule_arc_passes.specs.Passes.{pass_in, progress}
use Rattle.rule_arc_passes.proofs.pass.Given as goal

abbrev pub invariant-loop-x : goal.invariant-loop-x
invariant-loop-x l =
    pass_in l.arrays l.arrays.n l.all (record { dirty = l.start; words = l.initial.w }) ≡ loop (l.arrays.n - l.x) l.x (λ x. progress l.arrays l.all x) (record { dirty = l.dirty; words = l.w })
