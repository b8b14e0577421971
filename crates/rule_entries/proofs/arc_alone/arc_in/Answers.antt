use borrow.Author.Rules.{rules}
use mathlib.Core.Path.{◌≡◌, sym, ap, ◌∙◌}
use native.Mathlib.Omega.{arith}
use Rattle.std.specs.Prelude.{Err}
use Rattle.refusal.specs.Told.{reason_told, told_by}
use Rattle.refusal.proofs.RepliedLaws.{reply_refused, reply_told, list_refused, list_left}
use Rattle.rule_lend.proofs.LendLaws.{LentList, list_fine, list_same, may_lend_lem}
use Rattle.rule_entries.specs.Alone.{loss_values, arc_reply, arc_list}
use Rattle.rule_entries.proofs.ArcLaws.{arc_ends}
use Rattle.rule_entries.proofs.arc_alone.arc_in.Goals as goal
use Rattle.rule_entries.proofs.arc_alone.arc_in.Goals.{In_ok-list_test}

-- The list may be lent.
lent : (c : In_ok-list_test) → LentList c.args.arrays.now.n c.args.list.now
lent c = list_fine _ _ _ (sym c.list_test.ensures ∙ c.in_ok-list_test.was)

pub returns-in_err-list_test : goal.returns-in_err-list_test
unfolding arc_reply arc_list
returns-in_err-list_test c = λ P h.
    let q : c.from_residual.result ≡ Err c.in_err-list_test.field-0.0 = search rules in
    let s = c.list_test.ensures ∙ list_same P _ _ h in
    let w = c.in_err-list_test.was in
    (ap (told_by loss_values reason_told) q ∙ reply_refused _ _ s w, list_refused _ _ _ s w)

pub words_of-w-requires : goal.words_of-w-requires
words_of-w-requires c = let s = (lent (goal.at.words_of-w-requires c).In_ok-list_test).size in omega arith

pub put_back-requires : goal.put_back-requires
put_back-requires c = let s = (lent (goal.at.put_back-requires c).In_ok-list_test).size in omega arith

pub returns : goal.returns
unfolding arc_reply arc_list
returns c = λ P h.
    let s = c.list_test.ensures ∙ list_same P _ _ h in
    let w = c.in_ok-list_test.was in
    let t = may_lend_lem P _ _ h (sym c.list_test.ensures ∙ w) in
    let o = arc_ends P _ _ h.states _ _ _ _ _ _ c.words_of-w.ensures (lent (goal.at.returns c).In_ok-list_test).size (c.arc.ensures P h.states) c.put_back.ensures t in
    (reply_told _ _ s w (ap loss_values (c.is_err-lost.ensures.value ∙ o.0)), list_left _ _ _ s w o.1)
