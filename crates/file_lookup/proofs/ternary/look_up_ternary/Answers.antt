use mathlib.Core.Path.{◌≡◌, sym, ap, ◌∙◌}
use native.Mathlib.Omega.{arith}
use borrow.Author.Rules.{rules}
use Rattle.std.specs.Prelude.{ℕ, ◌+◌, ◌*◌, List, [], ◌∷◌, Err}
use Rattle.refusal.specs.Told.{replied}
use Rattle.file_layout.specs.Layout.{m_of, constraints_at, after_constraints, t_of}
use Rattle.file_reader.specs.declared.parts.Parts.{Parts}
use Rattle.file_reader.specs.Parts.{PartsOf}
use Rattle.file_reader.proofs.Accepted.{accepted}
use Rattle.file_lookup.specs.declared.ternary.Body.{Body}
use Rattle.file_lookup.specs.Ternary.{told_body, body_from, body_record}
use Rattle.file_lookup.proofs.TernaryLaws.{ternary_refused, ternary_found, ternary_none, ternaries_near}
use Rattle.file_lookup.proofs.ternary.look_up_ternary.Goals as goal

-- What the parts of a file say of its three-way constraints: how many there are, and where they begin.
counted : (f : List ℕ) (p : Parts) → PartsOf f p → p.ternaries.count ≡ t_of f
unfolding t_of
counted f p s = s.ternaries.count

begins : (f : List ℕ) (p : Parts) → PartsOf f p → (e m : ℕ) → e ≡ p.variables.start + 4 * p.variables.n → m ≡ m_of f →
    e + 36 * m ≡ after_constraints f
unfolding after_constraints constraints_at
begins f p s e m h g = omega (arith, h, g, s.variables.start, s.variables.count)

pub returns-in_err-parts : goal.returns-in_err-parts
returns-in_err-parts c =
    let q : c.from_residual.result ≡ Err c.in_err-parts.field-0.0 = search rules in
    ap told_body q ∙ sym (ternary_refused _ _ (sym c.in_err-parts.ensures.verdict) _)

pub returns-then-parts-number : goal.returns-then-parts-number
returns-then-parts-number c =
    let e = c.in_ok-parts.ensures in
    sym (ternary_none _ (sym e.verdict) _ (omega (arith, counted _ _ e.shows, c.if-parts-number.true)))

pub word_at-requires : goal.word_at-requires
word_at-requires c = (accepted _ (sym c.in_ok-parts.ensures.verdict)).head.within

pub body_from-requires : goal.body_from-requires
body_from-requires c = λ r h.
    let e = c.in_ok-parts.ensures in
    rw (begins _ _ e.shows _ _ c.end.ensures c.word_at.ensures)
    (omega (arith, ternaries_near c.args.f.now (sym e.verdict) r (omega (arith, counted _ _ e.shows, c.if-parts-number.false))))

pub returns : goal.returns
unfolding body_from body_record
returns c =
    let e = c.in_ok-parts.ensures in
    ap (λ (b : Body). replied (b.place ∷ b.length ∷ []))
    (c.body_from.ensures ∙ ap (λ (q : ℕ). body_from c.args.f.now q c.args.number) (begins _ _ e.shows _ _ c.end.ensures c.word_at.ensures))
    ∙ sym (ternary_found _ (sym e.verdict) _ (omega (arith, counted _ _ e.shows, c.if-parts-number.false)))
