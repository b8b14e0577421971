use borrow.Author.Rules.{rules}
use lib.ListN.{length}
use mathlib.Core.Bool.{Bool}
use mathlib.Core.Path.{◌≡◌, sym, ap, ◌∙◌}
use Rattle.std.specs.Prelude.{Result, Ok, Err}
use Rattle.refusal.specs.declared.reason.Refusal.{Refusal}
use Rattle.refusal.specs.Told.{Told}
use Rattle.search_run.specs.declared.Ran.{Ran}
use Rattle.judging.specs.Judging.{told}
use Rattle.judging.specs.Searching.{findings_of, nothing, found}
use Rattle.judging.proofs.JudgeLaws.{judged-found}
use Rattle.judging.proofs.judge.Goals as goal
use Rattle.judging.proofs.judge.Goals.{Start}

-- The places of the position.
long : (c : Start) → length c.args.p.values ≡ 32
long c = search rules

-- What the search tells.
abbrev tells : Result Ran Refusal → Told
tells r = (found r).told

pub returns-in_err-r : goal.returns-in_err-r
unfolding nothing
returns-in_err-r c =
    let q : c.from_residual.result ≡ Err c.in_err-r.field-0.0 = search rules in
    let s = c.search.ensures in
    record {
      result_value = ap told q ∙ sym (ap tells c.in_err-r.was) ∙ ap {B = Told} (λ o. o.told) s.result_value ∙ judged-found _ _ _ _ (long (goal.at.returns-in_err-r c).Start);
      room_after = s.room_after;
    }

pub returns : goal.returns
unfolding findings_of
returns c =
    let s = c.search.ensures in
    record {
      result_value = ap (λ (b : Bool). told (Ok b)) c.is_won.ensures ∙ sym (ap tells c.in_ok-r.was) ∙ ap {B = Told} (λ o. o.told) s.result_value ∙ judged-found _ _ _ _ (long (goal.at.returns c).Start);
      room_after = s.room_after;
    }
