use borrow.Author.Rules.{rules}
use mathlib.Core.Path.{◌≡◌, sym, ap, ◌∙◌}
use Rattle.std.specs.Prelude.{Err}
use Rattle.refusal.specs.declared.reason.Refusal.TheVariants.{InFile, InCall}
use Rattle.refusal.specs.Told.{reason_told, told_by}
use Rattle.file_decoder.proofs.ReadLaws.{read_refused}
use Rattle.rule_entries.proofs.EntryLaws.{read_given}
use Rattle.rule_entries.specs.Alone.{loss_values, told, arc_told, arc_left}
use Rattle.rule_entries.proofs.arc.Goals as goal

pub returns-in_err-decode_ordinary : goal.returns-in_err-decode_ordinary
unfolding arc_told arc_left
returns-in_err-decode_ordinary c =
    let q : c.from_residual.result ≡ Err (InFile c.in_err-decode_ordinary.field-0.0) = search rules in
    let z = c.decode_ordinary.ensures.refused _ c.in_err-decode_ordinary.was in
    record { result_value = ap told q ∙ sym (read_refused _ _ _ _ z); list_after = sym (read_refused _ _ _ _ z) }

pub returns-in_err-arc_in : goal.returns-in_err-arc_in
unfolding arc_told arc_left
returns-in_err-arc_in c =
    let q : c.from_residual-in_err-arc_in.result ≡ Err (InCall c.in_err-arc_in.field-0.0) = search rules in
    record { result_value = ap told q ∙ sym (ap (told_by loss_values reason_told) c.in_err-arc_in.was) ∙ read_given c.decode_ordinary.ensures c.in_ok-decode_ordinary.was _ _ (λ P h. (c.arc_in.ensures P h).0); list_after = read_given c.decode_ordinary.ensures c.in_ok-decode_ordinary.was _ _ (λ P h. (c.arc_in.ensures P h).1) }

pub returns : goal.returns
unfolding arc_told arc_left
returns c = record { result_value = sym (ap (told_by loss_values reason_told) c.in_ok-arc_in.was) ∙ read_given c.decode_ordinary.ensures c.in_ok-decode_ordinary.was _ _ (λ P h. (c.arc_in.ensures P h).0); list_after = read_given c.decode_ordinary.ensures c.in_ok-decode_ordinary.was _ _ (λ P h. (c.arc_in.ensures P h).1) }
