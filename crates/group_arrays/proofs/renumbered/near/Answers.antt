use mathlib.Core.Path.{refl, ap, ◌∙◌}
use native.Mathlib.Omega.{arith}
use lib.ListN.{get_or}
use Rattle.game.specs.Lists.{list_of, spread}
use Rattle.theory.proofs.SpreadLaws.{listed_next}
use Rattle.group_arrays.specs.Selected.{renumbered}
use Rattle.group_arrays.proofs.renumbered.near.Goals as goal

pub loop-t-init : goal.loop-t-init
unfolding list_of spread
loop-t-init c = refl

pub loop-t-preserved : goal.loop-t-preserved
loop-t-preserved c =
    let k = c.args.m.now.most in
    listed_next _ _ _ _ (omega arith) c.loop-t.invariant
    (c.renumbered.ensures ∙ ap (λ i. renumbered c.args.m.now (get_or c.args.arrays.now.near i 0)) c.old.ensures.0)
