use lib.ListN.{length}
use mathlib.Core.Path.{◌≡◌, sym, ap, ◌∙◌}
use borrow.Author.Rules.{rules}
use Rattle.std.specs.Prelude.{Err}
use Rattle.refusal.specs.declared.reason.Refusal.TheVariants.{InFile, InCall}
use Rattle.refusal.specs.Told.{reason_told, told_by}
use Rattle.file_decoder.proofs.ReadLaws.{read_refused}
use Rattle.judging.proofs.JudgeLaws.{ready_of}
use Rattle.marking.specs.Marking.{mark_values, told, mark_told, mark_left}
use Rattle.marking.proofs.ReplyLaws.{marked-file}
use Rattle.marking.proofs.mark.Goals as goal
use Rattle.marking.proofs.mark.Goals.{Start}

-- The places of the position.
long : (c : Start) → length c.args.p.values ≡ 32
long c = search rules

pub returns-in_err-decode_ordinary : goal.returns-in_err-decode_ordinary
unfolding mark_told mark_left
returns-in_err-decode_ordinary c =
    let q : c.from_residual.result ≡ Err (InFile c.in_err-decode_ordinary.field-0.0) = search rules in
    let z = c.decode_ordinary.ensures.refused _ c.in_err-decode_ordinary.was in
    record { result_value = ap told q ∙ sym (read_refused _ _ _ _ z); room_after = sym (read_refused _ _ _ _ z) }

pub mark_in-requires : goal.mark_in-requires
mark_in-requires c = ready_of _ _ (c.decode_ordinary.ensures.given c.in_ok-decode_ordinary.was)

pub returns-in_err-mark_in : goal.returns-in_err-mark_in
returns-in_err-mark_in c =
    let q : c.from_residual-in_err-mark_in.result ≡ Err (InCall c.in_err-mark_in.field-0.0) = search rules in
    let w = marked-file _ _ (c.decode_ordinary.ensures.given c.in_ok-decode_ordinary.was) _ (long (goal.at.returns-in_err-mark_in c).Start) _ _ _ _ c.mark_in.ensures in
    record { result_value = ap told q ∙ sym (ap (told_by mark_values reason_told) c.in_err-mark_in.was) ∙ w.0; room_after = w.1 }

pub returns : goal.returns
returns c =
    let w = marked-file _ _ (c.decode_ordinary.ensures.given c.in_ok-decode_ordinary.was) _ (long (goal.at.returns c).Start) _ _ _ _ c.mark_in.ensures in
    record { result_value = sym (ap (told_by mark_values reason_told) c.in_ok-mark_in.was) ∙ w.0; room_after = w.1 }
