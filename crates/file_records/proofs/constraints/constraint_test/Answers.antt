use mathlib.Core.Path.{◌≡◌, refl, sym, ◌∙◌}
use borrow.Author.Rules.{rules}
use Rattle.refusal.specs.Chain.{placed}
use Rattle.refusal.proofs.Chain.{stops, goes}
use Rattle.file_layout.proofs.LayoutLaws.{opened_out}
use Rattle.file_layout.specs.Layout.{domain_at, row_at}
use Rattle.file_layout.specs.Numbers.{constraint_fits}
use Rattle.file_records.specs.Records.{constraint_test}
use Rattle.file_records.proofs.constraints.constraint_test.Goals as goal

pub returns-in_err-opened : goal.returns-in_err-opened
unfolding constraint_test
returns-in_err-opened c = (search rules) ∙ stops _ _ (cc) c.in_err-opened.was

pub constraint_fits-fits-requires-clause-rows : goal.constraint_fits-fits-requires-clause-rows
constraint_fits-fits-requires-clause-rows c = let o = opened_out _ _ _ _ (sym c.opened.ensures ∙ c.in_ok-opened.was) in search rules

pub returns : goal.returns
unfolding constraint_test domain_at row_at placed
returns c =
    let v = c.args.v.now in
    let r = c.args.r.now in
    let e : c.constraint_fits-fits.result ≡ constraint_fits (domain_at v.file.now v.start) v.n c.args.last c.byte-i.result c.byte-j.result (row_at r.file.now r.place) =
    c.constraint_fits-fits.ensures (domain_at v.file.now v.start) (row_at r.file.now r.place) (λ k x h w. search rules) (λ k x h w. search rules) in
    let m : c.map_err.result ≡ placed r.place c.constraint_fits-fits.result = search rules in
    goes _ _ (cc) c.in_ok-opened.was (m ∙ rw (e, c.byte-i.ensures.0, c.byte-j.ensures.0, c.requires) refl)
