use borrow.Author.Rules.{rules}
use mathlib.Core.Path.{refl, sym, ◌∙◌}
use Rattle.mask.proofs.Chains.{took_lt}
use Rattle.rule_arc_passes.proofs.StepLaws.{look_none, look_all, lost_none, over-step}
use Rattle.rule_arc_passes.specs.Passes.{lost_at}
use Rattle.rule_arc_passes.proofs.look_from.Goals as goal

pub returns-then-contains : goal.returns-then-contains
returns-then-contains c = (look_none _ _ _ _ (sym c.contains.ensures ∙ c.if-contains.true), lost_none _ _)

pub revise-requires : goal.revise-requires
revise-requires c = let l = took_lt c.in-Some.ensures.steps in search rules

pub loop-k-preserved : goal.loop-k-preserved
loop-k-preserved c =
    let t = c.in-Some.ensures.steps in over-step _ _ 32 _ _ _ _ _ t.fits t.some t.low c.revise.ensures t.left c.loop-k.invariant

pub returns : goal.returns
unfolding lost_at
returns c = (look_all _ _ _ _ _ _ (sym c.contains.ensures ∙ c.if-contains.false) c.in-None.ensures.steps.0 c.loop-k.invariant, refl)
