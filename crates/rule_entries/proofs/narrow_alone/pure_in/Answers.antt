use borrow.Author.Rules.{rules}
use mathlib.Core.Path.{◌≡◌, sym, ap, ◌∙◌}
use Prim.Native.Nat.{◌<◌}
use native.Mathlib.Omega.{arith}
use Rattle.std.specs.Prelude.{Err}
use Rattle.refusal.specs.Told.{reason_told, told_by}
use Rattle.refusal.proofs.RepliedLaws.{reply_refused, reply_told, passed_stops, passed_goes}
use Rattle.rule_lend.proofs.LendLaws.{LentList, variable_fine, variable_same, words_hold, words_long}
use Rattle.rule_narrow.specs.Names.{pure_names}
use Rattle.rule_entries.specs.Alone.{name_values, names_shown, pure_reply, pure_names_shown}
use Rattle.rule_entries.proofs.NameLaws.{told_pure_names}
use Rattle.rule_entries.proofs.narrow_alone.pure_in.Goals as goal
use Rattle.rule_entries.proofs.narrow_alone.pure_in.Goals.{In_ok-variable_test}

-- The list may be lent, and has this variable.
lent : (c : In_ok-variable_test) → LentList c.args.arrays.now.n c.args.list.now × (c.args.x < c.args.arrays.now.n)
lent c = variable_fine _ _ _ _ (sym c.variable_test.ensures ∙ c.in_ok-variable_test.was)

pub returns-in_err-variable_test : goal.returns-in_err-variable_test
unfolding pure_reply pure_names_shown
returns-in_err-variable_test c = λ P h.
    let q : c.from_residual.result ≡ Err c.in_err-variable_test.field-0.0 = search rules in
    let s = c.variable_test.ensures ∙ variable_same P _ _ h _ in (
      ap (told_by name_values reason_told) q ∙ reply_refused _ _ s c.in_err-variable_test.was,
      ap names_shown (q ∙ passed_stops _ _ s c.in_err-variable_test.was),
    )

pub words_of-w-requires : goal.words_of-w-requires
words_of-w-requires c = let s = (lent (goal.at.words_of-w-requires c).In_ok-variable_test).0.size in omega arith

pub pure_names-requires : goal.pure_names-requires
pure_names-requires c =
    let l = lent (goal.at.pure_names-requires c).In_ok-variable_test in
    (l.1, words_long _ _ _ c.words_of-w.ensures l.0.size c.args.arrays.now.most)

pub returns : goal.returns
unfolding pure_reply pure_names_shown
returns c = λ P h.
    let l = lent (goal.at.returns c).In_ok-variable_test in
    let s = c.variable_test.ensures ∙ variable_same P _ _ h _ in
    let e = c.pure_names.ensures P h.states ∙ ap (pure_names P _) (words_hold _ _ _ c.words_of-w.ensures l.0.size) in
    (reply_told _ _ s c.in_ok-variable_test.was (ap name_values e ∙ told_pure_names P _ _), ap names_shown (passed_goes _ _ s c.in_ok-variable_test.was e))
