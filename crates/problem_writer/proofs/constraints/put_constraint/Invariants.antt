use Rattle.std.specs.Prelude.{◌≡◌, ◌*◌, ◌+◌, [], ◌∷◌}
use Rattle.buffer.specs.Stored.{stored, joined}
use Rattle.problem_writer.specs.Listing.{row_within}
use Rattle.problem_writer.proofs.constraints.put_constraint.Given as goal

abbrev pub invariant-loop-a : goal.invariant-loop-a
invariant-loop-a l = l.numbers ≡ stored l.initial.numbers (18 * l.t + 2) (joined (λ a. row_within l.arrays l.i l.j a ∷ []) l.a)
