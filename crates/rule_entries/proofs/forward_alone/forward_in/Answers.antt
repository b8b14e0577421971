use borrow.Author.Rules.{rules}
use mathlib.Core.Path.{◌≡◌, sym, ap, ◌∙◌}
use Prim.Native.Nat.{ℕ, ◌<◌}
use native.Mathlib.Omega.{arith}
use Rattle.std.specs.Prelude.{Option, Some, None, Err}
use Rattle.refusal.specs.Told.{replied, reason_told, told_by}
use Rattle.refusal.proofs.RepliedLaws.{reply_refused, reply_told, list_refused, list_left}
use Rattle.game.specs.Problem.{Problem}
use Rattle.solver_arrays.specs.Arrays.{Poses}
use Rattle.rule_lend.proofs.LendLaws.{LentList, value_fine, value_same, words_long, words_nonzero}
use Rattle.rule_entries.specs.Alone.{check_values, forward_reply, forward_list}
use Rattle.rule_entries.proofs.CheckLaws.{forward_ends}
use Rattle.rule_entries.proofs.forward_alone.forward_in.Goals as goal
use Rattle.rule_entries.proofs.forward_alone.forward_in.Goals.{In_ok-value_test, After-put_back}

-- The list may be lent, and has this value.
lent : (c : In_ok-value_test) → LentList c.args.arrays.now.n c.args.list.now × (c.args.x < c.args.arrays.now.n) × (c.args.a < 16)
lent c = value_fine _ _ _ _ _ (sym c.value_test.ensures ∙ c.in_ok-value_test.was)

pub returns-in_err-value_test : goal.returns-in_err-value_test
unfolding forward_reply forward_list
returns-in_err-value_test c = λ P h.
    let q : c.from_residual.result ≡ Err c.in_err-value_test.field-0.0 = search rules in
    let s = c.value_test.ensures ∙ value_same P _ _ h _ _ in
    let w = c.in_err-value_test.was in
    (ap (told_by check_values reason_told) q ∙ reply_refused _ _ s w, list_refused _ _ _ s w)

pub words_of-w-requires : goal.words_of-w-requires
words_of-w-requires c = let s = (lent (goal.at.words_of-w-requires c).In_ok-value_test).0.size in omega arith

pub forward-named-requires : goal.forward-named-requires
forward-named-requires c =
    let l = lent (goal.at.forward-named-requires c).In_ok-value_test in
    let e = c.words_of-w.ensures in
    (l.1, l.2, words_long _ _ _ e l.0.size c.args.arrays.now.most, words_nonzero _ _ _ e l.0.size l.0.some)

pub put_back-requires : goal.put_back-requires
put_back-requires c = let s = (lent (goal.at.put_back-requires c).In_ok-value_test).0.size in omega arith

-- What the check names is told, and what it leaves is put back.
forward_told :
    (c : After-put_back) (r : Option ℕ) → c.forward-named.result.named ≡ r → (P : Problem) → Poses P c.args.arrays.now →
    let l = c.args.list.now in
    (replied (check_values r) ≡ forward_reply P l c.args.x c.args.a) × (c.put_back.new.list ≡ forward_list P l c.args.x c.args.a)
unfolding forward_reply forward_list
forward_told c r is = λ P h.
    let s = c.value_test.ensures ∙ value_same P _ _ h _ _ in
    let w = c.in_ok-value_test.was in
    let l = value_fine _ _ _ _ _ (sym c.value_test.ensures ∙ w) in
    let e = c.forward-named.ensures.0 P h.states in
    let o = forward_ends P _ _ h.states _ _ c.words_of-w.ensures l.0.size _ _ r _ _ (sym is ∙ e.0, e.1) c.put_back.ensures in
    (reply_told _ _ s w o.0, list_left _ _ _ s w o.1)

pub returns-in-None : goal.returns-in-None
returns-in-None c = λ P h. forward_told (goal.at.returns-in-None c).After-put_back None c.in-None.is P h

pub returns-in-Some : goal.returns-in-Some
returns-in-Some c = λ P h. forward_told (goal.at.returns-in-Some c).After-put_back (Some c.in-Some.j) c.in-Some.is P h
