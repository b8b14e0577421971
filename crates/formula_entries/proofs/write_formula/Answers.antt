use borrow.Author.Rules.{rules}
use mathlib.Core.Path.{◌≡◌, sym, ap, ◌∙◌}
use Rattle.std.specs.Prelude.{Err}
use Rattle.refusal.specs.declared.reason.Refusal.TheVariants.{InFile, InCall}
use Rattle.refusal.specs.Told.{reason_told, told_by}
use Rattle.formula_entries.specs.Told.{length_values, told}
use Rattle.formula_entries.proofs.EntryLaws.{refused-told, refused-left, file_writes}
use Rattle.formula_entries.proofs.write_formula.Goals as goal

pub returns-in_err-decode_ordinary : goal.returns-in_err-decode_ordinary
returns-in_err-decode_ordinary c =
    let q : c.from_residual.result ≡ Err (InFile c.in_err-decode_ordinary.field-0.0) = search rules in
    let z = c.decode_ordinary.ensures.refused _ c.in_err-decode_ordinary.was in
    record { result_value = ap told q ∙ refused-told _ _ z _; buf_after = refused-left _ _ z _ }

pub returns-in_err-write_in : goal.returns-in_err-write_in
returns-in_err-write_in c =
    let q : c.from_residual-in_err-write_in.result ≡ Err (InCall c.in_err-write_in.field-0.0) = search rules in
    let o = file_writes _ _ (c.decode_ordinary.ensures.given c.in_ok-decode_ordinary.was) _ _ _ c.write_in.ensures in
    record { result_value = ap told q ∙ sym (ap (told_by length_values reason_told) c.in_err-write_in.was) ∙ o.0; buf_after = o.1 }

pub returns : goal.returns
returns c =
    let o = file_writes _ _ (c.decode_ordinary.ensures.given c.in_ok-decode_ordinary.was) _ _ _ c.write_in.ensures in
    record { result_value = sym (ap (told_by length_values reason_told) c.in_ok-write_in.was) ∙ o.0; buf_after = o.1 }
