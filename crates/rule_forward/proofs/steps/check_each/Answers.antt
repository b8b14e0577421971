use borrow.Author.Rules.{rules}
use mathlib.Core.Path.{refl, ap, ◌∙◌}
use native.Mathlib.Omega.{arith}
use Rattle.mask.proofs.Chains.{took_lt}
use Rattle.rule_forward.proofs.StepLaws.{passing_start, passing_turn, passing_end, unmoved_turn}
use Rattle.rule_forward.proofs.steps.check_each.Goals as goal

pub loop-j-init : goal.loop-j-init
loop-j-init c =
    let e = ap (λ s. s.left) c.into_iter-j-iterator.ensures.into_iter_gives ∙ c.members_of-j-items.ensures in
    (rw e (passing_start _ _ _ _ _ c.args.arrays.now.most _ c.requires.2 (λ k. omega (arith, c.slice_known-1.given k)) _), λ k l b. refl)

pub offset_bounds-w-j : goal.offset_bounds-w-j
offset_bounds-w-j c = let f = took_lt c.in-Some.ensures.steps in search rules

pub bounds-w-j : goal.bounds-w-j
bounds-w-j c = let f = took_lt c.in-Some.ensures.steps in search rules

pub check_at-lost-requires : goal.check_at-lost-requires
check_at-lost-requires c =
    let p = c.requires in
    (p.0, p.1, took_lt c.in-Some.ensures.steps, omega arith)

pub offset_bounds-w-j-in-loop-j : goal.offset_bounds-w-j-in-loop-j
offset_bounds-w-j-in-loop-j c = let f = took_lt c.in-Some.ensures.steps in search rules

pub bounds-w-j-in-loop-j : goal.bounds-w-j-in-loop-j
bounds-w-j-in-loop-j c = let f = took_lt c.in-Some.ensures.steps in search rules

pub noted-narrowed-requires : goal.noted-narrowed-requires
noted-narrowed-requires c = took_lt c.in-Some.ensures.steps

pub loop-j-preserved : goal.loop-j-preserved
loop-j-preserved c =
    let p = c.requires in
    let i = c.loop-j.invariant in
    let k = c.in-Some.ensures.steps in
    let r = c.check_at-lost.ensures in (
      passing_turn _ _ _ _ _ c.args.arrays.now.most _ p.2 _ p.3 _ k.fits k.some _ _ i.0 _ _ _ _ _ k.low k.left r.0 r.1 c.first_lost-named.ensures,
      unmoved_turn _ _ _ _ _ _ c.args.w.now _ _ r.1 c.noted-narrowed.ensures i.1,
    )

pub returns : goal.returns
returns c =
    let i = c.loop-j.invariant in
    let e = passing_end _ _ _ _ _ c.args.arrays.now.most _ c.requires.2 _ _ _ _ i.0 c.in-None.ensures.steps.0 in
    (e.0, e.1, i.1)
