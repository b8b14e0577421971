use borrow.Author.Rules.{rules}
use mathlib.Core.Path.{sym, ap, ◌∙◌}
use native.Mathlib.Omega.{arith}
use Rattle.file_reader.specs.Reading.{told as told_read, domains_shown}
use Rattle.file_reader.proofs.Accepted.{Shows, header_shows, header_refuses}
use Rattle.session.proofs.FileLaws.{unlock_refused, unlock_read, unlock_shown}
use Rattle.session.proofs.unlock.Goals as goal
use Rattle.session.proofs.unlock.Goals.{In_ok-r}

-- What a finished reading shows of the file.
shows : (c : In_ok-r) → Shows c.args.f.now c.in_ok-r.r.head
shows c = header_shows _ _ (ap told_read (sym c.in_ok-r.was) ∙ c.read.ensures.0)

pub returns-in_err-r : goal.returns-in_err-r
returns-in_err-r c =
    let w = unlock_shown _ _ _ _ ((search rules) ∙ unlock_refused _ _ _ (header_refuses _ _ (ap told_read (sym c.in_err-r.was) ∙ c.read.ensures.0)) _) in
    record { answer_value = w.0; position_value = w.1 }

pub returns-in_err-unlock_in : goal.returns-in_err-unlock_in
returns-in_err-unlock_in c =
    let s = shows (goal.at.returns-in_err-unlock_in c).In_ok-r in
    let d = ap domains_shown (sym c.in_ok-r.was) ∙ c.read.ensures.1 in
    let w = unlock_shown _ _ _ _ ((search rules) ∙ unlock_read _ _ _ _ (λ k. omega (arith, c.type_inv.f k)) s d _ _ (sym c.in_err-unlock_in.was ∙ c.unlock_in.ensures)) in
    record { answer_value = w.0; position_value = w.1 }

pub returns : goal.returns
returns c =
    let s = shows (goal.at.returns c).In_ok-r in
    let d = ap domains_shown (sym c.in_ok-r.was) ∙ c.read.ensures.1 in
    let w = unlock_shown _ _ _ _ (unlock_read _ _ _ _ (λ k. omega (arith, c.type_inv.f k)) s d _ _ (sym c.in_ok-unlock_in.was ∙ c.unlock_in.ensures)) in
    record { answer_value = w.0; position_value = w.1 }
