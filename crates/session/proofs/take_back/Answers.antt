use borrow.Author.Rules.{rules}
use mathlib.Core.Path.{sym, ap, ◌∙◌}
use native.Mathlib.Omega.{arith}
use Rattle.file_reader.specs.Reading.{told as told_read, domains_shown}
use Rattle.file_reader.proofs.Accepted.{Shows, header_shows, header_refuses}
use Rattle.session.proofs.FileLaws.{read_most, take_back_refused, take_back_read, take_back_shown}
use Rattle.session.proofs.take_back.Goals as goal
use Rattle.session.proofs.take_back.Goals.{In_ok-r}

-- What a finished reading shows of the file.
shows : (c : In_ok-r) → Shows c.args.f.now c.in_ok-r.r.head
shows c = header_shows _ _ (ap told_read (sym c.in_ok-r.was) ∙ c.read.ensures.0)

pub take_back_in-requires : goal.take_back_in-requires
take_back_in-requires c = read_most _ _ (shows (goal.at.take_back_in-requires c).In_ok-r)

pub returns-in_err-r : goal.returns-in_err-r
returns-in_err-r c =
    let w = take_back_shown _ _ _ ((search rules) ∙ take_back_refused _ _ _ (header_refuses _ _ (ap told_read (sym c.in_err-r.was) ∙ c.read.ensures.0))) in
    record { answer_value = w.0; position_value = w.1 }

pub returns-in_err-take_back_in : goal.returns-in_err-take_back_in
returns-in_err-take_back_in c =
    let s = shows (goal.at.returns-in_err-take_back_in c).In_ok-r in
    let d = ap domains_shown (sym c.in_ok-r.was) ∙ c.read.ensures.1 in
    let w = take_back_shown _ _ _ ((search rules) ∙ take_back_read _ _ _ _ (λ k. omega (arith, c.type_inv.f k)) s d _ (sym c.in_err-take_back_in.was ∙ c.take_back_in.ensures)) in
    record { answer_value = w.0; position_value = w.1 }

pub returns : goal.returns
returns c =
    let s = shows (goal.at.returns c).In_ok-r in
    let d = ap domains_shown (sym c.in_ok-r.was) ∙ c.read.ensures.1 in
    let w = take_back_shown _ _ _ (take_back_read _ _ _ _ (λ k. omega (arith, c.type_inv.f k)) s d _ (sym c.in_ok-take_back_in.was ∙ c.take_back_in.ensures)) in
    record { answer_value = w.0; position_value = w.1 }
