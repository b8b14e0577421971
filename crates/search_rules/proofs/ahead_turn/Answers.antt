use Prim.Native.Nat.{◌<◌}
use mathlib.Core.Path.{refl, sym, ◌∙◌}
use Rattle.rule_forward.proofs.StepLaws.{ahead_some, ahead_none}
use native.Mathlib.Omega.{arith}
use Rattle.search_rules.proofs.ChainLaws.{chosen, left_out, idle_replies}
use Rattle.search_rules.proofs.ArcAheadLaws.{variable_lt, ahead_lost, ahead_kept}
use Rattle.search_rules.proofs.ahead_turn.Goals as goal

pub look_ahead-requires : goal.look_ahead-requires
look_ahead-requires c = let p = c.requires in (p.0 c.if-on.true, p.1, p.2)

pub forward_conflict-requires : goal.forward_conflict-requires
forward_conflict-requires c =
    let p = c.requires in
    let h = p.0 c.if-on.true in
    let m = c.args.arrays.now.most in
    let f = ahead_some _ _ _ (sym c.in-Some.is ∙ c.look_ahead.ensures _ p.3.states) in
    let v = variable_lt _ _ _ p.3.states _ p.1 _ h _ _ f.0 f.1 (rw f.0 f.2) in
    (p.1, omega arith, omega arith)

pub returns-in-Some : goal.returns-in-Some
returns-in-Some c =
    λ P st. let p = c.requires in
    let t = c.if-on.true in
    let h = p.0 t in
    let f = ahead_some _ _ _ (sym c.in-Some.is ∙ c.look_ahead.ensures P st) in
    let k : c.in-Some.h.value < 16 = rw f.0 f.2 in
    let v = variable_lt P _ _ st _ p.1 _ h _ _ f.0 f.1 k in
    chosen _ _ _ _ _ _ _ _ _ t (ahead_lost P _ _ st _ p.1 _ h _ _ f.0 f.1 k (λ k. omega (arith, c.shared_slice_known-1.given k)) _ (c.forward_conflict.ensures P st v))

pub returns-in_default : goal.returns-in_default
returns-in_default c =
    λ P st. let p = c.requires in
    let t = c.if-on.true in
    chosen _ _ _ _ _ _ _ _ _ t (ahead_kept P _ _ st _ p.1 _ (p.0 t) _ _ refl refl (ahead_none _ _ (sym c.in_default.is ∙ c.look_ahead.ensures P st)) (λ k. omega (arith, c.shared_slice_known-1.given k)) _)

pub returns-else-on : goal.returns-else-on
returns-else-on c =
    λ P st. let p = c.requires in
    left_out _ _ _ _ _ _ _ _ _ c.if-on.false (idle_replies _ c.args.arrays.now.most _ p.1 (λ k. omega (arith, c.shared_slice_known-1.given k)) _)
