use borrow.Author.Rules.{rules}
use mathlib.Core.Path.{sym, ◌∙◌}
use Rattle.session.proofs.FileLaws.{own_posed, open_refused, open_read, open_shown}
use Rattle.session.proofs.open_values.Goals as goal

pub returns-in_err-decode : goal.returns-in_err-decode
returns-in_err-decode c =
    let w = open_shown _ _ _ ((search rules) ∙ open_refused _ _ _ (c.decode.ensures.refused _ c.in_err-decode.was)) in
    record { result_value = w.0; masks_value = (w.1, w.2) }

pub returns-in_err-open_in : goal.returns-in_err-open_in
returns-in_err-open_in c =
    let g = c.decode.ensures.given c.in_ok-decode.was in
    let w = open_shown _ _ _ ((search rules) ∙ open_read _ _ g.fine _ (sym c.in_err-open_in.was ∙ c.open_in.ensures _ (own_posed _ _ g))) in
    record { result_value = w.0; masks_value = (w.1, w.2) }

pub returns : goal.returns
returns c =
    let g = c.decode.ensures.given c.in_ok-decode.was in
    let w = open_shown _ _ _ (open_read _ _ g.fine _ (sym c.in_ok-open_in.was ∙ c.open_in.ensures _ (own_posed _ _ g))) in
    record { result_value = w.0; masks_value = (w.1, w.2) }
