use borrow.Author.Rules.{rules}
use mathlib.Core.Path.{sym, ap, ◌∙◌}
use native.Mathlib.Omega.{arith}
use Rattle.file_reader.specs.Reading.{told as told_read, domains_shown}
use Rattle.file_reader.proofs.Accepted.{Shows, header_shows, header_refuses}
use Rattle.session.proofs.FileLaws.{lock_refused, lock_read, lock_shown}
use Rattle.session.proofs.lock.Goals as goal
use Rattle.session.proofs.lock.Goals.{In_ok-r}

-- What a finished reading shows of the file.
shows : (c : In_ok-r) → Shows c.args.f.now c.in_ok-r.r.head
shows c = header_shows _ _ (ap told_read (sym c.in_ok-r.was) ∙ c.read.ensures.0)

pub returns-in_err-r : goal.returns-in_err-r
returns-in_err-r c =
    let w = lock_shown _ _ _ ((search rules) ∙ lock_refused _ _ _ (header_refuses _ _ (ap told_read (sym c.in_err-r.was) ∙ c.read.ensures.0))) in
    record { answer_value = w.0; position_value = w.1 }

pub returns-in_err-lock_in : goal.returns-in_err-lock_in
returns-in_err-lock_in c =
    let s = shows (goal.at.returns-in_err-lock_in c).In_ok-r in
    let d = ap domains_shown (sym c.in_ok-r.was) ∙ c.read.ensures.1 in
    let w = lock_shown _ _ _ ((search rules) ∙ lock_read _ _ _ _ (λ k. omega (arith, c.type_inv.f k)) s d _ (sym c.in_err-lock_in.was ∙ c.lock_in.ensures)) in
    record { answer_value = w.0; position_value = w.1 }

pub returns : goal.returns
returns c =
    let s = shows (goal.at.returns c).In_ok-r in
    let d = ap domains_shown (sym c.in_ok-r.was) ∙ c.read.ensures.1 in
    let w = lock_shown _ _ _ (lock_read _ _ _ _ (λ k. omega (arith, c.type_inv.f k)) s d _ (sym c.in_ok-lock_in.was ∙ c.lock_in.ensures)) in
    record { answer_value = w.0; position_value = w.1 }
