use mathlib.Core.Path.{refl}
use native.Mathlib.Omega.{arith}
use Rattle.mask.specs.Range.{count}
use Rattle.game.specs.Lists.{list_of, spread}
use Rattle.group_arrays.proofs.MembersLaws.{members_most, member_in, member_out}
use Rattle.group_arrays.proofs.group_members.Goals as goal
use Rattle.group_arrays.proofs.group_members.Goals.{then-groups-i, else-groups-i}

pub loop-i-init : goal.loop-i-init
unfolding count spread list_of
loop-i-init c = (refl, refl)

pub bounds-old-size : goal.bounds-old-size
bounds-old-size c = omega (arith, members_most _ _ _ _ c.loop-i.invariant.0)

pub overflow_add-size : goal.overflow_add-size
overflow_add-size c = omega (arith, members_most _ _ _ _ c.loop-i.invariant.0)

pub loop-i-preserved : goal.loop-i-preserved
loop-i-preserved c =
    let a = c.loop-i.invariant in
    elim c.if-groups-i.branch [
      | then-groups-i w ↦ rw (w.size-is, w.old-is) (member_in _ _ _ _ a.0 c.args.n _ (omega arith) (omega arith) w.if-groups-i.true a.1)
      | else-groups-i w ↦ rw (w.size-is, w.old-is) (member_out _ _ _ _ a.0 w.if-groups-i.false, a.1)
    ]

pub invariant_of-result : goal.invariant_of-result
invariant_of-result c = let b = members_most _ _ _ _ c.loop-i.invariant.0 in record { most = omega arith }
