use borrow.Author.Rules.{rules}
use mathlib.Core.Path.{◌≡◌, sym, ap, ◌∙◌}
use Rattle.std.specs.Prelude.{Err}
use Rattle.refusal.specs.declared.reason.Refusal.TheVariants.{InFile, InCall}
use Rattle.refusal.specs.Told.{reason_told, told_by}
use Rattle.file_reader.specs.Reading.{told as read_told}
use Rattle.file_reader.proofs.Accepted.{Shows, header_shows, header_refuses}
use Rattle.group_entries.specs.Told.{length_values, told}
use Rattle.group_entries.proofs.EntryLaws.{refused_told, refused_left, given_posed, set_fits, shown_writes}
use Rattle.group_entries.proofs.write_group.Goals as goal
use Rattle.group_entries.proofs.write_group.Goals.{In_ok-reading}

pub returns-in_err-reading : goal.returns-in_err-reading
returns-in_err-reading c =
    let q : c.from_residual.result ≡ Err (InFile c.in_err-reading.field-0.0) = search rules in
    let z = header_refuses _ _ (ap read_told (sym c.in_err-reading.was) ∙ c.read.ensures.0) in
    record { result_value = ap told q ∙ refused_told _ _ z _ _; buf_after = refused_left _ _ z _ _ }

pub returns-in_err-decode_ordinary : goal.returns-in_err-decode_ordinary
returns-in_err-decode_ordinary c =
    let q : c.from_residual-in_err-decode_ordinary.result ≡ Err (InFile c.in_err-decode_ordinary.field-0.0) = search rules in
    let z = c.decode_ordinary.ensures.refused _ c.in_err-decode_ordinary.was in
    record { result_value = ap told q ∙ refused_told _ _ z _ _; buf_after = refused_left _ _ z _ _ }

-- What a finished reading shows, and the set that it names.
shows : (c : In_ok-reading) → Shows c.args.f.now c.in_ok-reading.reading.head
shows c = header_shows _ _ (ap read_told (sym c.in_ok-reading.was) ∙ c.read.ensures.0)

pub write_in-requires-clause-posed : goal.write_in-requires-clause-posed
write_in-requires-clause-posed c = given_posed _ _ (c.decode_ordinary.ensures.given c.in_ok-decode_ordinary.was)

pub write_in-requires-clause-set : goal.write_in-requires-clause-set
write_in-requires-clause-set c = set_fits _ _ (shows (goal.at.write_in-requires-clause-set c).In_ok-reading)

pub returns-in_err-write_in : goal.returns-in_err-write_in
returns-in_err-write_in c =
    let q : c.from_residual-in_err-write_in.result ≡ Err (InCall c.in_err-write_in.field-0.0) = search rules in
    let o = shown_writes _ _ (c.decode_ordinary.ensures.given c.in_ok-decode_ordinary.was) _ (shows (goal.at.returns-in_err-write_in c).In_ok-reading) _ _ _ _ c.write_in.ensures in
    record { result_value = ap told q ∙ sym (ap (told_by length_values reason_told) c.in_err-write_in.was) ∙ o.0; buf_after = o.1 }

pub returns : goal.returns
returns c =
    let o = shown_writes _ _ (c.decode_ordinary.ensures.given c.in_ok-decode_ordinary.was) _ (shows (goal.at.returns c).In_ok-reading) _ _ _ _ c.write_in.ensures in
    record { result_value = sym (ap (told_by length_values reason_told) c.in_ok-write_in.was) ∙ o.0; buf_after = o.1 }
