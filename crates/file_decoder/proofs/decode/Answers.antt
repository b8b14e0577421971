use borrow.Author.Rules.{rules}
use mathlib.Core.Path.{sym, ap, ◌∙◌}
use native.Mathlib.Omega.{arith}
use Rattle.file_reader.specs.Reading.{told, domains_shown}
use Rattle.file_reader.proofs.Accepted.{shown_counts, Shows, header_shows, header_refuses}
use Rattle.file_decoder.proofs.Stated.{leaves, ready, entered, enters}
use Rattle.file_decoder.proofs.decode.Goals as goal
use Rattle.file_decoder.proofs.decode.Goals.{In_ok-r}

-- What a finished reading shows of the file.
shows : (c : In_ok-r) → Shows c.args.f.now c.in_ok-r.r.head
shows c = header_shows _ _ (ap told (sym c.in_ok-r.was) ∙ c.read.ensures.0)

pub unconstrained-requires : goal.unconstrained-requires
unconstrained-requires c = shown_counts (shows (goal.at.unconstrained-requires c).In_ok-r)

pub put_constraints-requires : goal.put_constraints-requires
put_constraints-requires c = let s = shows (goal.at.put_constraints-requires c).In_ok-r in ready _ _ _ s.fine c.constraints_at.ensures s.constraints

pub returns-in_err-r : goal.returns-in_err-r
returns-in_err-r c = leaves _ _ _ _ (header_refuses _ _ (ap told (sym c.in_err-r.was) ∙ c.read.ensures.0)) (search rules)

pub returns : goal.returns
returns c =
    let s = shows (goal.at.returns c).In_ok-r in
    let e = c.put_constraints.ensures in
    enters _ _ _ s.fine
    (entered _ _ c.in_ok-r.r _ _ (λ k. omega (arith, c.type_inv.f k)) s (ap domains_shown (sym c.in_ok-r.was) ∙ c.read.ensures.1) c.constraints_at.ensures
    c.unconstrained.ensures e.others e.near_after e.index_after e.rows_after)
