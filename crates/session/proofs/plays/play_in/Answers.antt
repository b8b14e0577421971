use Prim.Native.Nat.{◌<◌}
use borrow.Author.Rules.{rules}
use borrow.Author.Tests.{ltb-true}
use mathlib.Core.Path.{refl, sym, ◌∙◌}
use native.Mathlib.Omega.{arith}
use Rattle.mask.proofs.Logic.{true_holds}
use Rattle.refusal.proofs.Chain.{stops, goes, need_fine}
use Rattle.refusal.proofs.RepliedLaws.{passed_stops, passed_goes}
use Rattle.session.specs.Plays.{play_test, play_in}
use Rattle.session.proofs.PlayLaws.{value_small}
use Rattle.session.proofs.plays.play_in.Goals as goal
use Rattle.session.proofs.plays.play_in.Goals.{In_ok-needed}

-- A variable is left.
next : (c : In_ok-needed) → c.args.p.plays < c.args.n
next c = ltb-true _ _ (need_fine _ _ (sym c.needed.ensures ∙ c.in_ok-needed.was))

pub offset_bounds-domains-p : goal.offset_bounds-domains-p
offset_bounds-domains-p c = let l = next (goal.at.offset_bounds-domains-p c).In_ok-needed in omega arith

pub bounds-domains-p : goal.bounds-domains-p
bounds-domains-p c = let l = next (goal.at.bounds-domains-p c).In_ok-needed in omega arith

pub overflow_cast-value : goal.overflow_cast-value
overflow_cast-value c =
    let k = value_small _ _ (omega arith) (true_holds (sym c.holds.ensures ∙ need_fine _ _ (sym c.needed-2.ensures ∙ c.in_ok-needed-2.was))) in omega arith

pub pushed-requires : goal.pushed-requires
pushed-requires c = let l = next (goal.at.pushed-requires c).In_ok-needed in omega arith

pub returns-in_err-fit_test : goal.returns-in_err-fit_test
unfolding play_test play_in
returns-in_err-fit_test c = (search rules) ∙ passed_stops _ _ refl (sym (stops _ _ c.fit_test.ensures c.in_err-fit_test.was))

pub returns-in_err-needed : goal.returns-in_err-needed
unfolding play_test play_in
returns-in_err-needed c =
    (search rules) ∙ passed_stops _ _ refl (sym (goes _ _ c.fit_test.ensures c.in_ok-fit_test.was (stops _ _ c.needed.ensures c.in_err-needed.was)))

pub returns-in_err-needed-2 : goal.returns-in_err-needed-2
unfolding play_test play_in
returns-in_err-needed-2 c =
    (search rules)
    ∙ passed_stops _ _ refl
    (sym (goes _ _ c.fit_test.ensures c.in_ok-fit_test.was (goes _ _ c.needed.ensures c.in_ok-needed.was
    (sym c.in_err-needed-2.was ∙ rw (← c.holds.ensures) c.needed-2.ensures))))

pub returns : goal.returns
unfolding play_test play_in
returns c =
    passed_goes _ _ refl
    (sym (goes _ _ c.fit_test.ensures c.in_ok-fit_test.was (goes _ _ c.needed.ensures c.in_ok-needed.was
    (sym c.in_ok-needed-2.was ∙ rw (← c.holds.ensures) c.needed-2.ensures)))) c.pushed.ensures
