use borrow.Author.Rules.{rules}
use Prim.Native.Nat.{ℕ}
use mathlib.Core.Path.{sym, ap, subst, ◌∙◌}
use native.Mathlib.Omega.{arith}
use Rattle.file_reader.specs.Reading.{told, domains_shown}
use Rattle.file_reader.proofs.Accepted.{shown_counts, Shows, header_shows, header_refuses}
use Rattle.file_decoder.proofs.Stated.{BinaryStated, entered}
use Rattle.file_decoder.proofs.Stated.{ready as constraints_ready}
use Rattle.file_constraints.proofs.TernaryLaws.{constraints_near, behind_constraints, entered_most}
use Rattle.file_constraints.specs.Ternaries.{t_of}
use Rattle.file_decoder.specs.FileProblem.{ternary_of}
use Rattle.ternary_decoder.specs.Stated.{TernaryStated}
use Rattle.ternary_decoder.proofs.Ordinary.{start, ready, leaves, enters}
use Rattle.ternary_decoder.proofs.decode_ordinary.Goals as goal
use Rattle.ternary_decoder.proofs.decode_ordinary.Goals.{In_ok-r, After-put_constraints}

-- What a finished reading shows of the file.
shows : (c : In_ok-r) → Shows c.args.f.now c.in_ok-r.r.head
shows c = header_shows _ _ (ap told (sym c.in_ok-r.was) ∙ c.read.ensures.0)

pub unconstrained-requires : goal.unconstrained-requires
unconstrained-requires c = shown_counts (shows (goal.at.unconstrained-requires c).In_ok-r)

pub put_constraints-requires : goal.put_constraints-requires
put_constraints-requires c =
    let s = shows (goal.at.put_constraints-requires c).In_ok-r in constraints_ready _ _ _ s.fine c.constraints_at-q.ensures s.constraints

pub returns-in_err-r : goal.returns-in_err-r
returns-in_err-r c = leaves _ _ _ _ (header_refuses _ _ (ap told (sym c.in_err-r.was) ∙ c.read.ensures.0)) (search rules)

-- What the arrays state when all constraints of two variables are entered.
binary : (c : After-put_constraints) (s : Shows c.args.f.now c.in_ok-r.r.head) → BinaryStated c.args.f.now s.fine c.put_constraints.new.arrays
binary c s =
    let e = c.put_constraints.ensures in
    entered _ _ c.in_ok-r.r _ _ (λ k. omega (arith, c.type_inv.f k)) s (ap domains_shown (sym c.in_ok-r.was) ∙ c.read.ensures.1) c.constraints_at-q.ensures
    c.unconstrained.ensures e.others e.near_after e.index_after e.rows_after

pub overflow_add-q : goal.overflow_add-q
overflow_add-q c =
    let s = shows (goal.at.overflow_add-q c).In_ok-r in omega (arith, c.constraints_at-q.ensures, constraints_near c.args.f.now s.fine, s.constraints, entered_most c.args.f.now s.fine)

pub put_ternaries-requires-clause-stand : goal.put_ternaries-requires-clause-stand
put_ternaries-requires-clause-stand c =
    let s = shows (goal.at.put_ternaries-requires-clause-stand c).In_ok-r in
    let b = binary (goal.at.put_ternaries-requires-clause-stand c).After-put_constraints s in
    ready _ _ _ _ s.fine (behind_constraints _ _ _ c.constraints_at-q.ensures s.constraints) b.size s.ternaries

pub put_ternaries-requires-clause-numbers : goal.put_ternaries-requires-clause-numbers
put_ternaries-requires-clause-numbers c =
    let s = shows (goal.at.put_ternaries-requires-clause-numbers c).In_ok-r in omega (arith, s.constraints, s.ternaries, entered_most c.args.f.now s.fine)

pub put_ternaries-requires-clause-existential : goal.put_ternaries-requires-clause-existential
put_ternaries-requires-clause-existential c =
    let s = shows (goal.at.put_ternaries-requires-clause-existential c).In_ok-r in
    let b = binary (goal.at.put_ternaries-requires-clause-existential c).After-put_constraints s in
    λ i h. b.existential i (omega (arith, b.size))

pub returns : goal.returns
returns c =
    let s = shows (goal.at.returns c).In_ok-r in
    let b = binary (goal.at.returns c).After-put_constraints s in
    let f = c.args.f.now in
    let B = c.put_ternaries.new.arrays in
    let J = ternary_of f s.fine in
    let e =
    c.put_ternaries.ensures s.fine (behind_constraints _ _ _ c.constraints_at-q.ensures s.constraints) s.ternaries
    (subst (λ (m : ℕ). TernaryStated J m 0 c.put_constraints.new.arrays) (sym s.constraints) (start f s.fine _ b)) in
    enters f _ s.fine B (subst (λ (m : ℕ). TernaryStated J m (t_of f) B) s.constraints (subst (λ (t : ℕ). TernaryStated J c.in_ok-r.r.head.m t B) s.ternaries e))
