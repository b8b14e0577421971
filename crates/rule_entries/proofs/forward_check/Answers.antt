use borrow.Author.Rules.{rules}
use mathlib.Core.Path.{◌≡◌, sym, ap, ◌∙◌}
use Rattle.std.specs.Prelude.{Err}
use Rattle.refusal.specs.declared.reason.Refusal.TheVariants.{InFile, InCall}
use Rattle.refusal.specs.Told.{reason_told, told_by}
use Rattle.file_decoder.proofs.ReadLaws.{read_refused}
use Rattle.rule_entries.proofs.EntryLaws.{read_given}
use Rattle.rule_entries.specs.Alone.{check_values, told_check, forward_told, forward_left}
use Rattle.rule_entries.proofs.forward_check.Goals as goal

pub returns-in_err-decode_ordinary : goal.returns-in_err-decode_ordinary
unfolding forward_told forward_left
returns-in_err-decode_ordinary c =
    let q : c.from_residual.result ≡ Err (InFile c.in_err-decode_ordinary.field-0.0) = search rules in
    let z = c.decode_ordinary.ensures.refused _ c.in_err-decode_ordinary.was in
    record { result_value = ap told_check q ∙ sym (read_refused _ _ _ _ z); list_after = sym (read_refused _ _ _ _ z) }

pub returns-in_err-forward_in : goal.returns-in_err-forward_in
unfolding forward_told forward_left
returns-in_err-forward_in c =
    let q : c.from_residual-in_err-forward_in.result ≡ Err (InCall c.in_err-forward_in.field-0.0) = search rules in
    record { result_value = ap told_check q ∙ sym (ap (told_by check_values reason_told) c.in_err-forward_in.was) ∙ read_given c.decode_ordinary.ensures c.in_ok-decode_ordinary.was _ _ (λ P h. (c.forward_in.ensures P h).0); list_after = read_given c.decode_ordinary.ensures c.in_ok-decode_ordinary.was _ _ (λ P h. (c.forward_in.ensures P h).1) }

pub returns : goal.returns
unfolding forward_told forward_left
returns c = record { result_value = sym (ap (told_by check_values reason_told) c.in_ok-forward_in.was) ∙ read_given c.decode_ordinary.ensures c.in_ok-decode_ordinary.was _ _ (λ P h. (c.forward_in.ensures P h).0); list_after = read_given c.decode_ordinary.ensures c.in_ok-decode_ordinary.was _ _ (λ P h. (c.forward_in.ensures P h).1) }
