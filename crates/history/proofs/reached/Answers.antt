use borrow.Author.Rules.{rules}
use mathlib.Core.Path.{◌≡◌, refl, sym, ap, ◌∙◌}
use Rattle.std.proofs.lemmas.Fn.{fold_over, slice_gives, fronts}
use Rattle.position.specs.declared.Position.{Position}
use Rattle.session.specs.History.{step, reached_from}
use Rattle.history.specs.Replay.{call_of, calls_of}
use Rattle.history.proofs.ByteLaws.{one_more}
use Rattle.history.proofs.reached.Goals as goal

pub returns : goal.returns
unfolding reached_from calls_of
returns c =
    let f = c.args.f.now in
    let start = c.args.start in
    fold_over fronts (λ y. y.now) _ (λ calls q. q ≡ reached_from f start (calls_of calls)) _
    (λ calls p b q k e h.
    let z : q ≡ step f p (call_of b.now) = search rules in
    (z ∙ ap (λ (p : Position). step f p (call_of b.now)) e ∙ sym (one_more f calls b.now start), search rules))
    c.iter.result _ _ _ (slice_gives c.iter.result) refl c.fold.ensures.ran
    ∙ ap (λ l. reached_from f start (calls_of l)) c.iter.ensures.rest
