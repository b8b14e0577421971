use borrow.Author.Rules.{rules}
use mathlib.Core.Path.{refl, sym, ◌∙◌}
use Rattle.refusal.proofs.Chain.{stops, goes}
use Rattle.refusal.proofs.RepliedLaws.{passed_stops, passed_goes}
use Rattle.session.specs.Plays.{unlock_test, unlock_in}
use Rattle.session.proofs.plays.unlock_in.Goals as goal

pub returns-in_err-fit_test : goal.returns-in_err-fit_test
unfolding unlock_test unlock_in
returns-in_err-fit_test c = (search rules) ∙ passed_stops _ _ refl (sym (stops _ _ c.fit_test.ensures c.in_err-fit_test.was))

pub returns-in_err-needed : goal.returns-in_err-needed
unfolding unlock_test unlock_in
returns-in_err-needed c =
    (search rules) ∙ passed_stops _ _ refl (sym (goes _ _ c.fit_test.ensures c.in_ok-fit_test.was (sym c.in_err-needed.was ∙ c.needed.ensures)))

pub returns : goal.returns
unfolding unlock_test unlock_in
returns c = passed_goes _ _ refl (sym (goes _ _ c.fit_test.ensures c.in_ok-fit_test.was (sym c.in_ok-needed.was ∙ c.needed.ensures))) c.held.ensures
