use borrow.Author.Rules.{rules}
use mathlib.Core.Path.{◌≡◌, sym, ap, ◌∙◌}
use Rattle.std.specs.Prelude.{Err}
use Rattle.refusal.specs.declared.reason.Refusal.TheVariants.{InFile, InCall}
use Rattle.refusal.specs.Told.{reason_told, told_by}
use Rattle.file_decoder.proofs.ReadLaws.{read_refused}
use Rattle.rule_entries.proofs.EntryLaws.{read_given}
use Rattle.rule_entries.specs.Alone.{look_values, told_look, ahead_told}
use Rattle.rule_entries.proofs.look_ahead.Goals as goal

pub returns-in_err-decode_ordinary : goal.returns-in_err-decode_ordinary
unfolding ahead_told
returns-in_err-decode_ordinary c =
    let q : c.from_residual.result ≡ Err (InFile c.in_err-decode_ordinary.field-0.0) = search rules in
    let z = c.decode_ordinary.ensures.refused _ c.in_err-decode_ordinary.was in
    ap told_look q ∙ sym (read_refused _ _ _ _ z)

pub returns-in_err-ahead_in : goal.returns-in_err-ahead_in
unfolding ahead_told
returns-in_err-ahead_in c =
    let q : c.from_residual-in_err-ahead_in.result ≡ Err (InCall c.in_err-ahead_in.field-0.0) = search rules in
    ap told_look q ∙ sym (ap (told_by look_values reason_told) c.in_err-ahead_in.was) ∙ read_given c.decode_ordinary.ensures c.in_ok-decode_ordinary.was _ _ c.ahead_in.ensures

pub returns : goal.returns
unfolding ahead_told
returns c = sym (ap (told_by look_values reason_told) c.in_ok-ahead_in.was) ∙ read_given c.decode_ordinary.ensures c.in_ok-decode_ordinary.was _ _ c.ahead_in.ensures
