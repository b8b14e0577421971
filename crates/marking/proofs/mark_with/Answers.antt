use borrow.Author.Rules.{rules}
use native.Mathlib.Omega.{arith}
use mathlib.Core.Path.{◌≡◌, refl, ap, ◌∙◌}
use Prim.Native.Nat.{ℕ}
use lib.ListN.{length}
use Rattle.position.proofs.Fitting.{fits_more}
use Rattle.search_run.specs.Run.{room_words}
use Rattle.marking.specs.Marking.{mark_place_test}
use Rattle.marking.proofs.ReplyLaws.{place_fine, marks_refused, marks_told}
use Rattle.marking.proofs.mark_with.Goals.{After-mark_test}
use Rattle.marking.proofs.mark_with.Goals as goal

-- The test is of as many words as a search has.
tested : (c : After-mark_test) → c.mark_test.result ≡ mark_place_test c.args.arrays.now.own c.args.arrays.now.domains c.args.p (room_words c.args.arrays.now.n) (length c.args.room.now)
tested c = c.mark_test.ensures ∙ ap (λ (k : ℕ). mark_place_test c.args.arrays.now.own c.args.arrays.now.domains c.args.p k (length c.args.room.now)) c.room_needed.ensures

pub returns-in_err-mark_test : goal.returns-in_err-mark_test
returns-in_err-mark_test c = marks_refused _ _ _ _ _ (tested (goal.at.returns-in_err-mark_test c).After-mark_test) _ c.in_err-mark_test.was (search rules)

pub winning_values-requires : goal.winning_values-requires
winning_values-requires c =
    let t = place_fine _ _ _ _ _ _ (tested (goal.at.winning_values-requires c).After-mark_test) c.in_ok-mark_test.was in
    record {
      start = record { fits = fits_more _ _ _ _ _ t.0 c.args.arrays.now.first (λ i h. refl); posed = c.requires };
      next = omega (arith, t.1, c.args.arrays.now.first);
      room = t.2;
    }

pub returns : goal.returns
returns c =
    let set = c.args.set.bits in
    let r = c.winning_values.ensures in
    marks_told c.args.arrays.now _ set _ _ (tested (goal.at.returns c).After-mark_test) _ _ c.in_ok-mark_test.was r.0 r.1
