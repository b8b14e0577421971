use mathlib.Core.Path.{◌≡◌, refl, ◌∙◌}
use native.Mathlib.Omega.{arith}
use Rattle.buffer.specs.Stored.{stored, joined}
use Rattle.problem_writer.proofs.ListingLaws.{row_stored, numbers_stored}
use Rattle.problem_writer.proofs.constraints.put_constraint.Goals as goal

pub loop-a-init : goal.loop-a-init
unfolding joined stored
loop-a-init c = refl

pub loop-a-preserved : goal.loop-a-preserved
loop-a-preserved c = (cc) ∙ row_stored _ _ _ _ _ _

pub returns : goal.returns
returns c = let e : c.loop-a.a ≡ 16 = omega arith in (rw e at c.loop-a.invariant) ∙ numbers_stored _ _ _ _ _
