use borrow.Author.Rules.{rules}
use mathlib.Core.Path.{◌≡◌, sym, ap, ◌∙◌}
use Prim.Native.Nat.{◌<◌}
use native.Mathlib.Omega.{arith}
use Rattle.std.specs.Prelude.{Option, Some, None, Err}
use Rattle.refusal.specs.Told.{replied, reason_told, told_by}
use Rattle.refusal.proofs.RepliedLaws.{reply_refused, reply_told}
use Rattle.game.specs.Problem.{Problem}
use Rattle.solver_arrays.specs.Arrays.{Poses}
use Rattle.rule_forward.specs.declared.steps.Ahead.{Ahead}
use Rattle.rule_lend.proofs.LendLaws.{LentList, variable_fine, variable_same, words_long, words_nonzero}
use Rattle.rule_entries.specs.Alone.{look_values, ahead_reply}
use Rattle.rule_entries.proofs.CheckLaws.{ahead_ends}
use Rattle.rule_entries.proofs.forward_alone.ahead_in.Goals as goal
use Rattle.rule_entries.proofs.forward_alone.ahead_in.Goals.{In_ok-variable_test, After-look_ahead}

-- The list may be lent, and has this variable.
lent : (c : In_ok-variable_test) → LentList c.args.arrays.now.n c.args.list.now × (c.args.x < c.args.arrays.now.n)
lent c = variable_fine _ _ _ _ (sym c.variable_test.ensures ∙ c.in_ok-variable_test.was)

pub returns-in_err-variable_test : goal.returns-in_err-variable_test
unfolding ahead_reply
returns-in_err-variable_test c = λ P h.
    let q : c.from_residual.result ≡ Err c.in_err-variable_test.field-0.0 = search rules in
    ap (told_by look_values reason_told) q ∙ reply_refused _ _ (c.variable_test.ensures ∙ variable_same P _ _ h _) c.in_err-variable_test.was

pub words_of-w-requires : goal.words_of-w-requires
words_of-w-requires c = let s = (lent (goal.at.words_of-w-requires c).In_ok-variable_test).0.size in omega arith

pub look_ahead-requires : goal.look_ahead-requires
look_ahead-requires c =
    let l = lent (goal.at.look_ahead-requires c).In_ok-variable_test in
    let e = c.words_of-w.ensures in
    (l.1, words_long _ _ _ e l.0.size c.args.arrays.now.most, words_nonzero _ _ _ e l.0.size l.0.some)

-- What look ahead names is told.
ahead_told :
    (c : After-look_ahead) (r : Option Ahead) → c.look_ahead.result ≡ r → (P : Problem) → Poses P c.args.arrays.now →
    replied (look_values r) ≡ ahead_reply P c.args.list.now c.args.x
unfolding ahead_reply
ahead_told c r is = λ P h.
    let l = variable_fine _ _ _ _ (sym c.variable_test.ensures ∙ c.in_ok-variable_test.was) in
    reply_told _ _ (c.variable_test.ensures ∙ variable_same P _ _ h _) c.in_ok-variable_test.was
    (ahead_ends P _ _ h.states _ _ c.words_of-w.ensures l.0.size _ r (sym is ∙ c.look_ahead.ensures P h.states))

pub returns-in-None : goal.returns-in-None
returns-in-None c = λ P h. ahead_told (goal.at.returns-in-None c).After-look_ahead None c.in-None.is P h

pub returns-in-Some : goal.returns-in-Some
returns-in-Some c = λ P h. ahead_told (goal.at.returns-in-Some c).After-look_ahead (Some c.in-Some.h) c.in-Some.is P h
