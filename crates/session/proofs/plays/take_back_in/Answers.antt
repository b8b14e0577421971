use borrow.Author.Rules.{rules}
use borrow.Author.Tests.{ltb-true}
use lib.Dec.{eqb, ltb}
use mathlib.Core.Bool.{not}
use mathlib.Core.Path.{refl, sym, ◌∙◌}
use native.Mathlib.Omega.{arith}
use Rattle.refusal.specs.declared.reason.Reason.TheVariants.{Bare, Locked}
use Rattle.refusal.specs.Chain.{Test, need}
use Rattle.refusal.proofs.Chain.{stops, goes, need_fine}
use Rattle.refusal.proofs.RepliedLaws.{passed_stops, passed_goes}
use Rattle.position.specs.declared.Position.{Position}
use Rattle.position.proofs.Fitting.{fits_plays}
use Rattle.session.specs.Plays.{take_back_test, take_back_in}
use Rattle.session.proofs.PlayLaws.{fit_fine}
use Rattle.session.proofs.plays.take_back_in.Goals as goal

-- The second and the third test.
abbrev bare_test : Position → Test
bare_test p = need (ltb 0 p.plays) Bare

abbrev locked_test : Position → Test
locked_test p = need (not (eqb p.plays p.depth)) Locked

pub popped-requires : goal.popped-requires
popped-requires c =
    let k = fits_plays _ _ _ (fit_fine _ _ _ (sym c.fit_test.ensures ∙ c.in_ok-fit_test.was)) in
    let l = ltb-true 0 c.args.p.plays (need_fine _ Bare (sym c.needed.ensures ∙ c.in_ok-needed.was)) in
    (omega arith, omega arith)

pub returns-in_err-fit_test : goal.returns-in_err-fit_test
unfolding take_back_test take_back_in
returns-in_err-fit_test c = (search rules) ∙ passed_stops _ _ refl (sym (stops _ _ c.fit_test.ensures c.in_err-fit_test.was))

pub returns-in_err-needed : goal.returns-in_err-needed
unfolding take_back_test take_back_in
returns-in_err-needed c =
    let p = c.args.p in
    (search rules)
    ∙ passed_stops _ _ refl (sym (goes _ _ c.fit_test.ensures c.in_ok-fit_test.was (stops (bare_test p) (locked_test p) c.needed.ensures c.in_err-needed.was)))

pub returns-in_err-needed-2 : goal.returns-in_err-needed-2
unfolding take_back_test take_back_in
returns-in_err-needed-2 c =
    let p = c.args.p in
    (search rules)
    ∙ passed_stops _ _ refl
    (sym (goes _ _ c.fit_test.ensures c.in_ok-fit_test.was (goes (bare_test p) (locked_test p) c.needed.ensures c.in_ok-needed.was (sym c.in_err-needed-2.was ∙ c.needed-2.ensures))))

pub returns : goal.returns
unfolding take_back_test take_back_in
returns c =
    let p = c.args.p in
    passed_goes _ _ refl
    (sym (goes _ _ c.fit_test.ensures c.in_ok-fit_test.was (goes (bare_test p) (locked_test p) c.needed.ensures c.in_ok-needed.was (sym c.in_ok-needed-2.was ∙ c.needed-2.ensures))))
    c.popped.ensures
