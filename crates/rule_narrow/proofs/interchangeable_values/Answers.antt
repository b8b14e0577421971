use Prim.Native.Nat.{ℕ, ◌^◌, ◌<◌, ◌≤◌}
use borrow.Author.Rules.{rules}
use lib.Bits.{bit_or, or_lt, or_zero_l}
use lib.ListN.{get_or, length}
use mathlib.Core.Bool.{cond}
use mathlib.Core.Path.{◌≡◌, refl, sym, subst, ◌∙◌}
use native.Mathlib.Omega.{arith}
use Rattle.mask.proofs.Chains.{serves_turns, fold_members, took_lt}
use Rattle.rule_narrow.specs.Narrow.{is_representative, representatives_in}
use Rattle.rule_narrow.proofs.InterchangeLaws.{representative_lt, representatives-next, representatives_end, interchangeable_stated}
use Rattle.rule_narrow.proofs.interchangeable_values.Goals as goal

pub fold-requires-clause-callable : goal.fold-requires-clause-callable
fold-requires-clause-callable c =
    serves_turns 16 (λ s. s.left) (λ m p. (p.0.1.now < 32) × (96 ≤ length p.0.2.now)) _ c.members_of.ensures (search rules)
    (λ m j v p q t k r. search rules) (λ m j v p t k. let l = took_lt t in search rules)

pub returns : goal.returns
returns c =
    λ P S. let a = c.args in
    let all : ℕ = representatives_in a.arrays.now a.x a.w.now (get_or a.w.now a.x 0) in
    let r = fold_members 16 (λ s. s.left) _ _ (λ left out. (out < 65536) × (all ≡ bit_or out (representatives_in a.arrays.now a.x a.w.now left))) _ _ _ _ c.members_of.ensures c.fold.ensures.ran
    (search rules, sym (or_zero_l _))
    (λ m j v b d q t k e.
    let one : ℕ = cond (is_representative a.arrays.now a.x a.w.now j) (2 ^ j) 0 in
    let f : d ≡ bit_or b one = search rules in (
      search rules,
      subst (λ d. (d < 65536) × (all ≡ bit_or d (representatives_in a.arrays.now a.x a.w.now v))) (sym f)
          (or_lt 16 _ _ k.0 (representative_lt _ _ _ _ (took_lt t)), representatives-next _ _ _ _ _ _ _ _ _ k.0 t.fits t.some t.low refl t.left k.1),
    )) in
    representatives_end _ _ _ _ _ _ refl r.1 ∙ interchangeable_stated P _ _ S _ c.requires.0 _ (λ j. omega (arith, c.type_inv.w j))
