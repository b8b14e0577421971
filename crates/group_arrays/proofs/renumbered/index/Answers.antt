use Prim.Native.Nat.{ℕ, ◌+◌, ◌*◌, ◌/◌, ◌%◌}
use mathlib.Core.Path.{ap₂}
use native.Mathlib.Omega.{arith}
use lib.ListN.{get_or, length-replicate}
use Rattle.theory.proofs.Lists.{list_of-below}
use Rattle.group_arrays.specs.Members.{old_in}
use Rattle.group_arrays.specs.Selected.{index_in}
use Rattle.group_arrays.proofs.MembersLaws.{filled_next, filled_end}
use Rattle.group_arrays.proofs.renumbered.index.Goals as goal

pub loop-x-init : goal.loop-x-init
loop-x-init c = (length-replicate {A = ℕ} 1024 0, λ k l. absurd (omega arith))

pub loop-x-preserved : goal.loop-x-preserved
unfolding index_in
loop-x-preserved c =
    filled_next 1024 (index_in c.args.m.now c.args.arrays.now) _ _ _ (omega arith) c.loop-x.invariant
    (ap₂ (λ i j. get_or c.args.arrays.now.index (32 * i + j) 0) c.old.ensures.0 c.old-in-loop-x.ensures.0)

pub returns-clause-value : goal.returns-clause-value
returns-clause-value c = filled_end 1024 _ _ c.loop-x.x (omega arith) c.loop-x.invariant

pub returns-clause-range : goal.returns-clause-range
unfolding index_in
returns-clause-range c = λ k.
    let f = index_in c.args.m.now c.args.arrays.now in
    rw (filled_end 1024 f _ c.loop-x.x (omega arith) c.loop-x.invariant)
    (let b = list_of-below 1024 f 993 (λ x. omega (arith, c.args.arrays.now.in_range (32 * old_in c.args.m.now (x / 32) + old_in c.args.m.now (x % 32)))) k in omega arith)
