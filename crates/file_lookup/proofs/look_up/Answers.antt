use mathlib.Core.Path.{◌≡◌, sym, ap, ap₂, ◌∙◌}
use mathlib.Core.Bool.{true}
use native.Mathlib.Omega.{arith}
use borrow.Author.Rules.{rules}
use Rattle.std.specs.Prelude.{ℕ, ◌+◌, ◌*◌, Err}
use Rattle.refusal.specs.declared.reason.Refusal.TheVariants.{InFile, InCall}
use Rattle.refusal.specs.Chain.{Fine}
use Rattle.refusal.proofs.Chain.{need_fine, need_stops}
use Rattle.file_layout.specs.Layout.{n_of, constraints_at}
use Rattle.file_layout.specs.Numbers.{in_order, pair_of}
use Rattle.file_layout.proofs.NumberLaws.{order_out, constraints_most}
use Rattle.file_reader.proofs.Accepted.{accepted}
use Rattle.file_records.specs.Records.{verdict_of}
use Rattle.file_lookup.specs.Lookup.{told, place_to}
use Rattle.file_lookup.proofs.Lookup.{look_fine, look-refused, place_so, place-not}
use Rattle.file_lookup.proofs.look_up.Goals as goal
use Rattle.file_lookup.proofs.look_up.Goals.{After-end}

pub word_at-m-requires : goal.word_at-m-requires
word_at-m-requires c = (accepted _ (sym c.in_ok-parts.ensures.verdict)).head.within

-- In an accepted file, and for a pair in order.
module _ (c : After-end) where
  fine_of : verdict_of c.args.f.now ≡ Fine
  fine_of = sym c.in_ok-parts.ensures.verdict

  order_of : in_order c.args.i c.args.j (n_of c.args.f.now) ≡ true
  order_of = rw (← c.in_ok-parts.ensures.shows.variables.count) (sym c.in_order.ensures ∙ need_fine _ _ (sym c.needed.ensures ∙ c.in_ok-needed.was))

pub find-requires : goal.find-requires
find-requires c =
    let a = (goal.at.find-requires c).After-end in
    let o = order_out _ _ _ (order_of a) in
    let d = (accepted _ (fine_of a)).head.counts in
    omega (arith, constraints_most _ _ d, d.most)

pub returns-in_err-parts : goal.returns-in_err-parts
returns-in_err-parts c =
    let q : c.from_residual.result ≡ Err (InFile c.in_err-parts.field-0.0) = search rules in
    ap told q ∙ sym (look-refused _ _ (sym c.in_err-parts.ensures.verdict) _ _)

pub returns-in_err-needed : goal.returns-in_err-needed
returns-in_err-needed c =
    let n = need_stops _ _ (sym c.needed.ensures ∙ c.in_err-needed.was) in
    let q : c.from_residual-in_err-needed.result ≡ Err (InCall c.in_err-needed.field-0.0) = search rules in
    ap told (q ∙ ap (λ e. Err (InCall e)) n.1)
    ∙ sym (look_fine _ (sym c.in_ok-parts.ensures.verdict) _ _
    ∙ place-not _ _ _ (rw (← c.in_ok-parts.ensures.shows.variables.count) (sym c.in_order.ensures ∙ n.0)))

pub returns : goal.returns
unfolding constraints_at
returns c =
    let a = (goal.at.returns c).After-end in
    let s = c.in_ok-parts.ensures.shows.variables in
    c.find.ensures
    ∙ ap₂ (λ (q m : ℕ). place_to c.args.f.now q (pair_of c.args.i c.args.j) m) (c.end.ensures ∙ ap₂ (λ (b n : ℕ). b + 4 * n) s.start s.count) c.word_at-m.ensures
    ∙ sym (look_fine _ (fine_of a) _ _ ∙ place_so _ _ _ (order_of a))
