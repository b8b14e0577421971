use borrow.Author.Rules.{rules}
use mathlib.Core.Path.{◌≡◌, sym, ap, ◌∙◌}
use Rattle.std.specs.Prelude.{Err}
use Rattle.refusal.specs.declared.reason.Refusal.TheVariants.{InFile, InCall}
use Rattle.refusal.specs.Told.{reason_told, told_by}
use Rattle.file_decoder.proofs.ReadLaws.{read_refused}
use Rattle.rule_entries.proofs.EntryLaws.{read_given}
use Rattle.rule_entries.specs.Alone.{mask_values, told_values, interchangeable_told}
use Rattle.rule_entries.proofs.interchangeable.Goals as goal

pub returns-in_err-decode_ordinary : goal.returns-in_err-decode_ordinary
unfolding interchangeable_told
returns-in_err-decode_ordinary c =
    let q : c.from_residual.result ≡ Err (InFile c.in_err-decode_ordinary.field-0.0) = search rules in
    let z = c.decode_ordinary.ensures.refused _ c.in_err-decode_ordinary.was in
    ap told_values q ∙ sym (read_refused _ _ _ _ z)

pub returns-in_err-interchangeable_in : goal.returns-in_err-interchangeable_in
unfolding interchangeable_told
returns-in_err-interchangeable_in c =
    let q : c.from_residual-in_err-interchangeable_in.result ≡ Err (InCall c.in_err-interchangeable_in.field-0.0) = search rules in
    ap told_values q ∙ sym (ap (told_by mask_values reason_told) c.in_err-interchangeable_in.was) ∙ read_given c.decode_ordinary.ensures c.in_ok-decode_ordinary.was _ _ c.interchangeable_in.ensures

pub returns : goal.returns
unfolding interchangeable_told
returns c = sym (ap (told_by mask_values reason_told) c.in_ok-interchangeable_in.was) ∙ read_given c.decode_ordinary.ensures c.in_ok-decode_ordinary.was _ _ c.interchangeable_in.ensures
