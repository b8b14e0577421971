use borrow.Author.Rules.{rules}
use mathlib.Core.Path.{sym, ap, subst, ◌∙◌}
use native.Mathlib.Omega.{arith}
use Rattle.mask.proofs.Chains.{took_lt}
use Rattle.rule_arc.proofs.LossSteps.{Stopping, stopping_start, stopping-found, stopping_on, stopping_end}
use Rattle.rule_arc.proofs.lowest_stopped.Goals as goal

pub loop-x-init : goal.loop-x-init
loop-x-init c =
    let a = c.args in
    let e = ap (λ s. s.left) c.into_iter-x-iterator.ensures.into_iter_gives ∙ c.members_of-x-items.ensures in
    subst (Stopping a.arrays.now a.touched a.w.now a.arrays.now.n) (sym e) (stopping_start _ _ _ _ _ c.args.arrays.now.most (omega arith) c.everyone.ensures)

pub offset_bounds-arrays-x : goal.offset_bounds-arrays-x
offset_bounds-arrays-x c = let l = took_lt c.in-Some.ensures.steps in search rules

pub bounds-arrays-x : goal.bounds-arrays-x
bounds-arrays-x c = took_lt c.in-Some.ensures.steps

pub first_bar-requires : goal.first_bar-requires
first_bar-requires c = (took_lt c.in-Some.ensures.steps, c.requires)

pub returns-in-Some-first_bar : goal.returns-in-Some-first_bar
returns-in-Some-first_bar c = stopping-found _ _ _ _ _ _ _ c.in-Some.ensures.steps c.loop-x.invariant _ c.in-Some-first_bar.ensures

pub loop-x-preserved : goal.loop-x-preserved
loop-x-preserved c = stopping_on _ _ _ _ _ _ _ c.in-Some.ensures.steps c.loop-x.invariant (sym c.in_default.is ∙ c.first_bar.ensures)

pub returns : goal.returns
returns c = stopping_end _ _ _ _ _ c.in-None.ensures.steps.0 c.loop-x.invariant
