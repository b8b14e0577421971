use borrow.Author.Rules.{rules}
use mathlib.Core.Path.{refl, sym}
use native.Mathlib.Omega.{arith}
use Rattle.std.proofs.lemmas.Result.{err_from_is_err_and}
use Rattle.mask.proofs.Logic.{true_holds}
use Rattle.search_rules.specs.RuledTurn.{ChecksTurn, ArcTurn}
use Rattle.search_rules.proofs.NarrowLaws.{calm_all, calm_after}
use Rattle.search_rules.proofs.TurnLaws.{ahead-below, turn_checked, turn-narrowed, turn_ends}
use Rattle.search_rules.proofs.run_rules.Goals as goal

pub rule_turn-requires : goal.rule_turn-requires
rule_turn-requires c =
    let p = c.requires in
    (p.0, p.1, p.2, p.3, p.4, λ _ _. calm_all _ _ _ _ c.everyone.ensures)

pub returns-in_err-narrowed : goal.returns-in_err-narrowed
returns-in_err-narrowed c =
    let p = c.requires in
    let checks : ChecksTurn _ _ _ _ _ _ _ _ _ _ = c.in_err-narrowed.ensures in
    let r = err_from_is_err_and c.from_residual.result c.from_residual.ensures.1 in
    rw (r.1, r.2) (record {
      replies = λ P st q s. turn_checked P _ _ st _ _ _ q _ s p.2 _ c.uses-checked.ensures _ _ _ (checks.replies P st q s) refl;
      lasts = λ f. absurd (true_holds (sym f));
    })

pub rule_turn-requires-2 : goal.rule_turn-requires-2
rule_turn-requires-2 c =
    let p = c.requires in
    let checks : ChecksTurn _ _ _ _ _ _ _ _ _ _ = c.in_ok-narrowed.ensures in
    let k = checks.checked in (
      p.0,
      p.1,
      search rules,
      k.lasts refl,
      p.4,
      λ _. calm_after _ _ _ _ _ _ _ _ _ (λ k. omega (arith, c.slice_known-2-1.given k)) p.5 (k.moved refl) _ (k.heeded refl) c.changed_by-changed.ensures _ c.uses-used.ensures,
    )

pub returns-in_err-rule_turn : goal.returns-in_err-rule_turn
returns-in_err-rule_turn c =
    let p = c.requires in
    let checks : ChecksTurn _ _ _ _ _ _ _ _ _ _ = c.in_ok-narrowed.ensures in
    let arcs : ArcTurn _ _ _ _ _ _ _ = c.in_err-rule_turn.ensures in
    let r = err_from_is_err_and c.from_residual-in_err-rule_turn.result c.from_residual-in_err-rule_turn.ensures.1 in
    rw (r.1, r.2) (record {
      replies = λ P st q s. turn-narrowed P _ _ st _ _ _ q _ s p.2 _ c.uses-checked.ensures _ _ _ (checks.replies P st q s) refl
          _ c.uses-used.ensures _ _ _ (arcs.replies P st) refl;
      lasts = λ f. absurd (true_holds (sym f));
    })

pub ahead_turn-requires : goal.ahead_turn-requires
ahead_turn-requires c =
    let p = c.requires in
    let arcs : ArcTurn _ _ _ _ _ _ _ = c.in_ok-rule_turn.ensures in
    (ahead-below _ _ _ _ c.ahead_used.ensures, search rules, arcs.lasts refl, p.4)

pub returns : goal.returns
returns c =
    let p = c.requires in
    let checks : ChecksTurn _ _ _ _ _ _ _ _ _ _ = c.in_ok-narrowed.ensures in
    let arcs : ArcTurn _ _ _ _ _ _ _ = c.in_ok-rule_turn.ensures in record {
      replies = λ P st q s. turn_ends P _ _ st _ _ _ q _ s p.2 _ c.uses-checked.ensures _ _ _ (checks.replies P st q s) refl
          _ c.uses-used.ensures _ _ _ (arcs.replies P st) refl _ c.ahead_used.ensures _ _ (c.ahead_turn.ensures P st);
      lasts = λ _. arcs.lasts refl;
    }
