use borrow.Author.Rules.{rules}
use mathlib.Core.Path.{◌∙◌}
use Rattle.refusal.proofs.RepliedLaws.{passed_stops, passed_goes}
use Rattle.session.specs.Plays.{lock_in}
use Rattle.session.proofs.plays.lock_in.Goals as goal

pub returns-in_err-fit_test : goal.returns-in_err-fit_test
unfolding lock_in
returns-in_err-fit_test c = (search rules) ∙ passed_stops _ _ c.fit_test.ensures c.in_err-fit_test.was

pub returns : goal.returns
unfolding lock_in
returns c = passed_goes _ _ c.fit_test.ensures c.in_ok-fit_test.was c.held.ensures
