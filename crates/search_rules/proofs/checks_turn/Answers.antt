use native.Mathlib.Omega.{arith}
use Rattle.search_rules.proofs.ChainLaws.{left_out, idle_replies, checks_on}
use Rattle.search_rules.proofs.NarrowLaws.{narrowed_none}
use mathlib.Core.Path.{sym, ◌∙◌}
use Rattle.mask.proofs.Logic.{true_holds}
use Rattle.search_rules.proofs.checks_turn.Goals as goal

pub returns-then-on : goal.returns-then-on
returns-then-on c = checks_on c.if-on.true c.check_plays.ensures

pub returns-else-on : goal.returns-else-on
returns-else-on c =
    let p = c.requires in
    record {
      replies = λ P st q s. left_out _ _ _ _ _ _ _ _ _ c.if-on.false (idle_replies _ c.args.arrays.now.most _ p.2 (λ k. omega (arith, c.type_inv.w k)) _);
      checked = record { lasts = λ _. p.3; moved = λ _. narrowed_none _ _ _ _ _; heeded = λ _ t. absurd (true_holds (sym c.if-on.false ∙ t)) };
    }
