use mathlib.Core.Path.{◌≡◌, ◌∙◌}
use borrow.Author.Rules.{rules}
use Rattle.std.specs.Prelude.{Err}
use Rattle.refusal.proofs.Chain.{stops, goes}
use Rattle.position.specs.Position.{fit_test}
use Rattle.marking.specs.Marking.{mark_place_test}
use Rattle.marking.proofs.mark_test.Goals as goal

pub returns-in_err-fit_test : goal.returns-in_err-fit_test
unfolding mark_place_test fit_test
returns-in_err-fit_test c =
    let q : c.from_residual.result ≡ Err c.in_err-fit_test.field-0.0 = search rules in
    q ∙ stops _ _ c.fit_test.ensures c.in_err-fit_test.was

pub returns-in_err-needed : goal.returns-in_err-needed
unfolding mark_place_test fit_test
returns-in_err-needed c =
    let q : c.from_residual-in_err-needed.result ≡ Err c.in_err-needed.field-0.0 = search rules in
    goes _ _ c.fit_test.ensures c.in_ok-fit_test.was (q ∙ stops _ _ c.needed.ensures c.in_err-needed.was)

pub returns : goal.returns
unfolding mark_place_test fit_test
returns c = goes _ _ c.fit_test.ensures c.in_ok-fit_test.was (goes _ _ c.needed.ensures c.in_ok-needed.was c.room_test.ensures)
