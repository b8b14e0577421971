use Prim.Native.Nat.{◌+◌}
use mathlib.Core.Path.{◌≡◌, refl, ap, ap₂, ◌∙◌}
use mathlib.Core.Bool.{true}
use lib.Dec.{leb}
use borrow.Author.Rules.{rules}
use Rattle.std.specs.Result.{result_and}
use Rattle.refusal.specs.declared.reason.Reason.TheVariants.{Triple, Many}
use Rattle.refusal.specs.Reason.{◌at◌}
use Rattle.refusal.specs.Chain.{Verdict, ◌then◌, need}
use Rattle.refusal.proofs.Chain.{and_is, then_assoc}
use Rattle.file_layout.specs.Layout.{opened, domain_at, number_at, body_at}
use Rattle.file_layout.specs.Numbers.{ternary_fits}
use Rattle.file_records.specs.Records.{ternary_test}
use Rattle.file_records.proofs.ternaries.ternary_test.Goals as goal

-- Three tests one behind another.
three : (s t u : Verdict) → result_and (result_and s t) u ≡ (s then t then u)
three s t u = and_is (result_and s t) u ∙ ap (λ (w : Verdict). w then u) (and_is s t) ∙ then_assoc s t u

pub returns : goal.returns
unfolding ternary_test domain_at number_at
returns c =
    let v = c.args.v.now in
    let r = c.args.r.now in
    let p = r.place in
    let body = opened r.file.now p true (body_at r.file.now p) in
    let many = need (leb (v.n + c.args.k + 1) 32) (Many at p) in
    let triple = need (ternary_fits (domain_at v.file.now v.start) v.n c.args.last (number_at r.file.now p)) (Triple at p) in
    let fits : c.ternary_fits-fits.result ≡ ternary_fits (domain_at v.file.now v.start) v.n c.args.last (number_at r.file.now p) =
    c.ternary_fits-fits.ensures (domain_at v.file.now v.start) (number_at r.file.now p) (λ k x h w. search rules) (λ k x h w. search rules) in
    let is_body : c.opened-body.result ≡ body = c.opened-body.ensures ∙ ap (opened r.file.now p true) c.body.ensures.0 in
    let is_many : c.needed-many.result ≡ many = search rules in
    let is_triple : c.needed-triple.result ≡ triple = c.needed-triple.ensures ∙ ap₂ need fits c.at-2.ensures in
    c.and-2.ensures ∙ ap₂ result_and (c.and.ensures ∙ ap₂ result_and is_body is_many) is_triple ∙ three body many triple ∙ rw c.requires.file refl
