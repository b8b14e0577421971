use borrow.Author.Rules.{rules}
use mathlib.Core.Path.{◌≡◌, sym, ap, ◌∙◌}
use Rattle.std.specs.Prelude.{Err}
use Rattle.refusal.specs.declared.reason.Refusal.TheVariants.{InFile, InCall}
use Rattle.refusal.specs.Told.{reason_told}
use Rattle.judging.specs.Searching.{found, found_by}
use Rattle.judging.proofs.JudgeLaws.{ready_of, searched_file, refused-file}
use Rattle.judging.proofs.search.Goals as goal

pub returns-in_err-decode_ordinary : goal.returns-in_err-decode_ordinary
returns-in_err-decode_ordinary c =
    let q : c.from_residual.result ≡ Err (InFile c.in_err-decode_ordinary.field-0.0) = search rules in
    let w = refused-file _ c.args.p c.args.set _ _ (c.decode_ordinary.ensures.refused _ c.in_err-decode_ordinary.was) in
    record { result_value = ap found q ∙ w.0; room_after = w.1 }

pub search_in-requires : goal.search_in-requires
search_in-requires c = ready_of _ _ (c.decode_ordinary.ensures.given c.in_ok-decode_ordinary.was)

pub returns-in_err-search_in : goal.returns-in_err-search_in
returns-in_err-search_in c =
    let q : c.from_residual-in_err-search_in.result ≡ Err (InCall c.in_err-search_in.field-0.0) = search rules in
    let w = searched_file _ _ (c.decode_ordinary.ensures.given c.in_ok-decode_ordinary.was) _ _ _ _ _ c.search_in.ensures in
    record { result_value = ap found q ∙ sym (ap (found_by reason_told) c.in_err-search_in.was) ∙ w.0; room_after = w.1 }

pub returns : goal.returns
returns c =
    let w = searched_file _ _ (c.decode_ordinary.ensures.given c.in_ok-decode_ordinary.was) _ _ _ _ _ c.search_in.ensures in
    record { result_value = sym (ap (found_by reason_told) c.in_ok-search_in.was) ∙ w.0; room_after = w.1 }
