use borrow.Author.Rules.{rules}
use mathlib.Core.Path.{◌≡◌, sym, ap, ◌∙◌}
use Rattle.std.specs.Prelude.{Err}
use Rattle.refusal.specs.declared.reason.Refusal.TheVariants.{InFile, InCall}
use Rattle.refusal.specs.Told.{reason_told, told_by}
use Rattle.file_decoder.proofs.ReadLaws.{read_refused}
use Rattle.rule_entries.proofs.EntryLaws.{read_given}
use Rattle.rule_entries.specs.Alone.{name_values, told_pure, names_shown, pure_told, pure_shown}
use Rattle.rule_entries.proofs.pure.Goals as goal

pub returns-in_err-decode_ordinary : goal.returns-in_err-decode_ordinary
unfolding pure_told pure_shown
returns-in_err-decode_ordinary c =
    let q : c.from_residual.result ≡ Err (InFile c.in_err-decode_ordinary.field-0.0) = search rules in
    let z = c.decode_ordinary.ensures.refused _ c.in_err-decode_ordinary.was in
    record { told = ap told_pure q ∙ sym (read_refused _ _ _ _ z); shown = ap names_shown q ∙ sym (read_refused _ _ _ _ z) }

pub returns-in_err-pure_in : goal.returns-in_err-pure_in
unfolding pure_told pure_shown
returns-in_err-pure_in c =
    let q : c.from_residual-in_err-pure_in.result ≡ Err (InCall c.in_err-pure_in.field-0.0) = search rules in
    let w = c.in_err-pure_in.was in
    record {
      told = ap told_pure q ∙ sym (ap (told_by name_values reason_told) w) ∙ read_given c.decode_ordinary.ensures c.in_ok-decode_ordinary.was _ _ (λ P h. (c.pure_in.ensures P h).0);
      shown = ap names_shown q ∙ sym (ap names_shown w) ∙ read_given c.decode_ordinary.ensures c.in_ok-decode_ordinary.was _ _ (λ P h. (c.pure_in.ensures P h).1);
    }

pub returns : goal.returns
unfolding pure_told pure_shown
returns c =
    let w = c.in_ok-pure_in.was in
    record {
      told = sym (ap (told_by name_values reason_told) w) ∙ read_given c.decode_ordinary.ensures c.in_ok-decode_ordinary.was _ _ (λ P h. (c.pure_in.ensures P h).0);
      shown = sym (ap names_shown w) ∙ read_given c.decode_ordinary.ensures c.in_ok-decode_ordinary.was _ _ (λ P h. (c.pure_in.ensures P h).1);
    }
