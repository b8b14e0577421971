use borrow.Author.Rules.{rules}
use mathlib.Core.Path.{sym, ap, subst, ◌∙◌}
use native.Mathlib.Omega.{arith}
use lib.Dec.{T}
use Rattle.mask.specs.Mask.{bit}
use Rattle.mask.proofs.Chains.{took_lt, took_in, member_left}
use Rattle.solver_arrays.proofs.WordLaws.{get_d_list_in}
use Rattle.rule_narrow.proofs.NameLaws.{passed_none, passed_next, named_by}
use Rattle.rule_narrow.proofs.names.pure_names.Goals as goal

pub loop-a-init : goal.loop-a-init
loop-a-init c =
    let e = ap (λ s. s.left) c.into_iter-a-iterator.ensures.into_iter_gives ∙ c.members_of-a-items.ensures in
    ((λ k t. subst (λ m. T (bit m k)) e t), (λ P S. (passed_none _ _ _ e, passed_none _ _ _ e)))

pub first_clash-clash-requires : goal.first_clash-clash-requires
first_clash-clash-requires c = let l = took_lt c.in-Some.ensures.steps in search rules

pub bounds-variables-a : goal.bounds-variables-a
bounds-variables-a c = let l = took_lt c.in-Some.ensures.steps in l

pub bounds-values-a : goal.bounds-values-a
bounds-values-a c = let l = took_lt c.in-Some.ensures.steps in l

pub loop-a-preserved : goal.loop-a-preserved
loop-a-preserved c =
    let t = c.in-Some.ensures.steps in
    let i = c.loop-a.invariant in
    let m = i.0 _ (took_in t) in (
      (λ k b. i.0 k (member_left t k b)),
      (λ P S.
          let s = i.1 P S in
          let f = c.first_clash-clash.ensures P S in
          (passed_next _ _ _ _ _ _ _ t m s.0 f.0, passed_next _ _ _ _ _ _ _ t m s.1 f.1)),
    )

pub returns : goal.returns
returns c = λ P S.
    let s = c.loop-a.invariant.1 P S in
    named_by P _ _ _ _ (c.pure_values-pure.ensures P S) (sym (get_d_list_in _ _ _ c.requires.0)) (omega (arith, c.type_inv.w c.args.x)) _ _ _ _ c.difference-impure.ensures c.in-None.ensures.steps.0 s.0 s.1
