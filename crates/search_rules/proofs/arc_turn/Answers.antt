use native.Mathlib.Omega.{arith}
use Rattle.search_rules.proofs.ChainLaws.{chosen, left_out, idle_replies}
use Rattle.search_rules.proofs.ArcAheadLaws.{arc_replies, arc_lasts}
use borrow.Author.Rules.{rules}
use Rattle.search_rules.proofs.arc_turn.Goals as goal

pub arc-requires : goal.arc-requires
arc-requires c = let p = c.requires in (search rules, p.3 c.if-on.true, λ x l _. p.1 x l)

pub returns-then-on : goal.returns-then-on
returns-then-on c =
    let p = c.requires in record {
      replies = λ P st. chosen _ _ _ _ _ _ _ _ _ c.if-on.true (arc_replies P _ _ st _ p.0 (λ k. omega (arith, c.slice_known-1.given k)) _ _ _ (c.arc.ensures P st));
      lasts = λ e. arc_lasts _ _ _ p.2.states _ p.0 _ _ _ (c.arc.ensures _ p.2.states) e p.1;
    }

pub returns-else-on : goal.returns-else-on
returns-else-on c =
    let p = c.requires in
    record { replies = λ P st. left_out _ _ _ _ _ _ _ _ _ c.if-on.false (idle_replies _ c.args.arrays.now.most _ p.0 (λ k. omega (arith, c.type_inv.w k)) _); lasts = λ _. p.1 }
