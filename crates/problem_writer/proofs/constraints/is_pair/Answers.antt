use Prim.Native.Nat.{◌/◌, ◌%◌}
use mathlib.Core.Path.{◌≡◌, sym, ◌∙◌}
use Rattle.file_layout.specs.Numbers.{in_order}
use Rattle.file_layout.proofs.NumberLaws.{in_order_then, in_order_else}
use Rattle.problem_writer.specs.Listing.{is_pair_in}
use Rattle.problem_writer.proofs.constraints.is_pair.Goals as goal
use Rattle.problem_writer.proofs.constraints.is_pair.Goals.{Joined-i-j, then-i-j, else-i-j}

-- What is tested first.
ordered : (c : Joined-i-j) → c.if-i-j.value ≡ in_order (c.args.pair / 32) (c.args.pair % 32) c.args.arrays.now.n
ordered c =
    elim c.if-i-j.branch [
      | then-i-j w ↦ in_order_then (c.args.pair / 32) (c.args.pair % 32) c.args.arrays.now.n w.if-i-j.true w.value-is
      | else-i-j w ↦ in_order_else (c.args.pair / 32) (c.args.pair % 32) c.args.arrays.now.n w.if-i-j.false w.value-is
    ]

pub returns-then-j-arrays : goal.returns-then-j-arrays
unfolding is_pair_in
returns-then-j-arrays c = rw (sym (ordered (goal.at.returns-then-j-arrays c).Joined-i-j) ∙ c.if-j-arrays.true) c.tied.ensures

pub returns-else-j-arrays : goal.returns-else-j-arrays
unfolding is_pair_in
returns-else-j-arrays c = rw (sym (ordered (goal.at.returns-else-j-arrays c).Joined-i-j) ∙ c.if-j-arrays.false) c.if-j-arrays.false
