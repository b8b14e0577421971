use mathlib.Core.Path.{◌≡◌, refl, sym, ap₂, ◌∙◌}
use mathlib.Core.Bool.{false≢true}
use borrow.Author.Rules.{rules}
use Rattle.std.specs.Prelude.{Result, Ok, Err}
use Rattle.std.specs.Result.{MatchResult, is_ok}
use Rattle.refusal.specs.declared.reason.Fault.{Fault}
use Rattle.refusal.specs.Chain.{Verdict, ◌then◌}
use Rattle.refusal.proofs.Chain.{and_is, then_fine, go, stops, goes}
use Rattle.file_records.specs.Records.{rs_test, rest_test, verdict_of}
use Rattle.file_records.specs.Tested.{tested}
use Rattle.file_reader.proofs.whole.parts_of.Goals as goal
use Rattle.file_reader.proofs.whole.parts_of.Goals.{After-and}

-- The rest without its parts says what the rest says.
alone : {A : Type 0} (P : A → Type 0) (r : Result A Fault) (v : Verdict) → MatchResult r P (λ e. v ≡ Err e) → is_ok v ≡ is_ok r → v ≡ tested r
alone P (Ok x) (Ok u) h s = refl
alone P (Ok x) (Err e) h s = absurd (false≢true s)
alone P (Err e) v h s = h

-- RS is tested first.
both : (c : After-and) → let f = c.args.f.now in c.and.result ≡ (rs_test f then rest_test f)
both c =
    let rules = c.rs_test-rules in
    let rest = c.rest_test-rest in
    let t = c.map-tested in
    c.and.ensures ∙ and_is rules.result t.result ∙ ap₂ ◌then◌ rules.ensures (alone _ rest.result t.result t.ensures.cases t.ensures.variant ∙ rest.ensures.verdict)

pub returns-in_err-qp_test-clause-verdict : goal.returns-in_err-qp_test-clause-verdict
unfolding verdict_of
returns-in_err-qp_test-clause-verdict c =
    let q : c.from_residual.result ≡ Err c.in_err-qp_test.field-0.0 = search rules in
    rw q (stops _ _ c.qp_test.ensures c.in_err-qp_test.was)

pub returns-in_err-and-clause-verdict : goal.returns-in_err-and-clause-verdict
unfolding verdict_of
returns-in_err-and-clause-verdict c =
    let q : c.from_residual-in_err-and.result ≡ Err c.in_err-and.field-0.0 = search rules in
    let b = both (goal.at.returns-in_err-and-clause-verdict c).After-and in
    rw q (goes _ _ c.qp_test.ensures c.in_ok-qp_test.was (sym c.in_err-and.was ∙ b))

pub returns-clause-verdict : goal.returns-clause-verdict
unfolding verdict_of
returns-clause-verdict c =
    let f = c.args.f.now in
    let b = both (goal.at.returns-clause-verdict c).After-and in
    let fine = (then_fine (rs_test f) (rest_test f) (sym b ∙ c.in_ok-and.was)).0 in
    goes _ _ c.qp_test.ensures c.in_ok-qp_test.was (c.rest_test-rest.ensures.verdict ∙ sym (go (rs_test f) (rest_test f) fine))
