use mathlib.Core.Path.{refl, ap}
use native.Mathlib.Omega.{arith}
use lib.ListN.{get_or}
use Rattle.game.specs.Lists.{list_of, spread}
use Rattle.theory.proofs.SpreadLaws.{listed_next}
use Rattle.group_arrays.proofs.renumbered.domains.Goals as goal

pub loop-t-init : goal.loop-t-init
unfolding list_of spread
loop-t-init c = refl

pub loop-t-preserved : goal.loop-t-preserved
loop-t-preserved c =
    let k = c.args.m.now.most in
    listed_next _ _ _ _ (omega arith) c.loop-t.invariant (ap (λ i. get_or c.args.arrays.now.domains i 0) c.old.ensures.0)
