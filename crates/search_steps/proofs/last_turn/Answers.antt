use Prim.Native.Nat.{ℕ, ◌<◌}
use borrow.Author.Rules.{rules}
use lib.ListN.{get_or}
use mathlib.Core.Path.{refl}
use native.Mathlib.Omega.{arith}
use Rattle.search_steps.proofs.EnterLaws.{replied_size, replied_behind}
use Rattle.search_steps.proofs.LastLaws.{last-won, last_lost, holds_all, leaf-list, leaves-won, leaves_lost}
use Rattle.search_steps.proofs.ReachLaws.{reach_by, rules-reach, leaf-reach}
use Rattle.search_steps.proofs.SettledLaws.{settled}
use Rattle.search_steps.proofs.StandLaws.{stated, checked, nonzero, plays_in}
use Rattle.search_steps.proofs.last_turn.Goals as goal
use Rattle.search_steps.proofs.last_turn.Goals.{After-slice_known-1}

-- The words at entry.
words : (c : After-slice_known-1) → (k : ℕ) → get_or c.args.room.now k 0 < 65536
words c k = omega (arith, c.slice_known-1.given k)

pub returns-in_default : goal.returns-in_default
returns-in_default c =
    let s = c.requires in
    let e = c.copy_leaf.ensures in
    let small = words (goal.at.returns-in_default c).After-slice_known-1 in
    let tells = c.broken_in.ensures in
    let none = c.in_default.is in
    record {
      reach = λ P st p t. leaf-reach P _ _ st _ _ _ p _ _ t refl (holds_all P _ _ st _ _ p _ small t _ tells none) (leaf-list _ _ _ c.args.arrays.now.most s.0 s.1 e);
      reply = λ P st p t. last-won P _ _ st _ _ p _ small t _ tells none s.0 c.args.arrays.now.most _ e _;
      room = leaves-won _ _ _ c.args.arrays.now.most s.0 s.1 e;
    }

pub run_rules-said-requires : goal.run_rules-said-requires
run_rules-said-requires c =
    let s = c.requires in
    let small = words (goal.at.run_rules-said-requires c).After-slice_known-1 in
    (checked _ _ _ _ _ _ s.2, search rules, search rules, nonzero _ _ _ _ _ _ s.2, stated _ _ _ _ _ _ s.2, settled _ _ _ _ _ _ small s.2)

pub returns : goal.returns
returns c =
    let s = c.requires in
    let small = words (goal.at.returns c).After-slice_known-1 in
    let rules = c.run_rules-said.ensures.replies in
    let q = s.2 in
    let own = rules q.problem q.states q.plays (plays_in q.problem _ _ q.states _ _ _ q.plays _ small q.turn) in
    record {
      reach = λ P st p t. reach_by _ _ c.is_err-by_rules.ensures.value
          (rules-reach P _ _ st _ _ _ p _ _ t refl _ _ (omega (arith, s.0)) (rules P st p (plays_in P _ _ st _ _ _ p _ small t)));
      reply = λ P st p t.
          let o = rules P st p (plays_in P _ _ st _ _ _ p _ small t) in
          last_lost P _ _ st _ _ p _ small t _ c.broken_in.ensures _ c.in-Some.is _ _ o.loss o.set _ c.check_set-checked.ensures _ c.uses.ensures _ c.handed.ensures _;
      room = leaves_lost _ _ _ c.args.arrays.now.most s.0 s.1 (replied_size own) (replied_behind c.args.arrays.now.most own);
    }
