use borrow.Author.Rules.{rules}
use mathlib.Core.Path.{◌≡◌, refl, ap, ◌∙◌}
use Prim.Native.Nat.{ℕ}
use lib.ListN.{length}
use Rattle.position.proofs.Fitting.{fits_more}
use Rattle.search_run.specs.Run.{room_words}
use Rattle.judging.specs.Tests.{place_test}
use Rattle.judging.proofs.JudgeLaws.{places_refused, places_ran}
use Rattle.judging.proofs.TestLaws.{place_fine}
use Rattle.judging.proofs.search_with.Goals.{After-place_test}
use Rattle.judging.proofs.search_with.Goals as goal

-- The test is of as many words as a search has.
tested : (c : After-place_test) → c.place_test.result ≡ place_test c.args.arrays.now.own c.args.arrays.now.domains c.args.p (room_words c.args.arrays.now.n) (length c.args.room.now)
tested c = c.place_test.ensures ∙ ap (λ (k : ℕ). place_test c.args.arrays.now.own c.args.arrays.now.domains c.args.p k (length c.args.room.now)) c.room_needed.ensures

pub returns-in_err-place_test : goal.returns-in_err-place_test
returns-in_err-place_test c = places_refused _ _ _ _ _ (tested (goal.at.returns-in_err-place_test c).After-place_test) _ c.in_err-place_test.was (search rules)

pub run-requires : goal.run-requires
run-requires c =
    let t = place_fine _ _ _ _ _ _ (tested (goal.at.run-requires c).After-place_test) c.in_ok-place_test.was in
    (record { fits = fits_more _ _ _ _ _ t.0 c.args.arrays.now.first (λ i h. refl); posed = c.requires }, t.1)

pub returns : goal.returns
returns c =
    let set = c.args.set.bits in
    let r = c.run.ensures in
    places_ran c.args.arrays.now _ set _ _ (tested (goal.at.returns c).After-place_test) _ _ c.in_ok-place_test.was r.0 r.1
