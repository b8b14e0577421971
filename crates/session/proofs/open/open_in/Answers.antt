use borrow.Author.Rules.{rules}
use mathlib.Core.Path.{sym, ◌∙◌}
use native.Mathlib.Omega.{arith}
use Rattle.position.proofs.Fitting.{fits_plays}
use Rattle.session.proofs.OpenLaws.{open_refused_lem, open_done}
use Rattle.session.proofs.PlayLaws.{fit_fine}
use Rattle.session.proofs.open.open_in.Goals as goal

pub open_all-requires : goal.open_all-requires
open_all-requires c =
    let k = fits_plays _ _ _ (fit_fine _ _ _ (sym c.fit_test.ensures ∙ c.in_ok-fit_test.was)) in
    omega arith

pub returns-in_err-fit_test : goal.returns-in_err-fit_test
returns-in_err-fit_test c = λ P h. (search rules) ∙ open_refused_lem P _ h _ _ (sym c.fit_test.ensures ∙ c.in_err-fit_test.was)

pub returns : goal.returns
returns c = λ P h. open_done P _ h _ _ (search rules) (sym c.fit_test.ensures ∙ c.in_ok-fit_test.was) c.open_all.ensures
