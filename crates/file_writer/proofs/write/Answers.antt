use mathlib.Core.Path.{◌≡◌, refl, sym, ap, ◌∙◌}
use mathlib.Core.Bool.{Bool, true}
use Prim.Native.Nat.{◌≤◌}
use lib.ListN.{length}
use native.Mathlib.Omega.{arith}
use borrow.Author.Rules.{rules}
use Rattle.std.specs.Prelude.{Err}
use Rattle.refusal.specs.declared.reason.Reason.TheVariants.{Lent}
use Rattle.refusal.specs.Chain.{Fine, need}
use Rattle.refusal.proofs.Chain.{need_fine, need_ok, both_ok, stops, goes}
use Rattle.file_layout.proofs.NumberLaws.{counts_out, constraints_most}
use Rattle.file_bytes.specs.Bytes.{count_in, whole_records, length_of, handed}
use Rattle.file_writer.specs.Tests.{lists_fit, write_test}
use Rattle.file_writer.proofs.Writable.{writable, sized, length_most, lent_first, lent_last, lent_fine, told_refused, buffer_refused, told_length, buffer_stored}
use Rattle.file_writer.proofs.write.Goals as goal
use Rattle.file_writer.proofs.write.Goals.{In_ok-needed, In_ok-needed-2, In_ok-t, In_ok-rest_test}

pub returns-in_err-needed : goal.returns-in_err-needed
unfolding write_test
returns-in_err-needed c =
    let i : c.from_residual.result ≡ Err c.in_err-needed.field-0.0 = search rules in
    let q = stops _ _ (rw (← c.counts_fit.ensures) c.needed.ensures) c.in_err-needed.was in
    record { result_value = told_refused _ _ q i; buf_after = buffer_refused _ _ q }

-- What test 3 says where it is fine.
counts : (c : In_ok-needed) → (c.args.n ≤ 32) × (c.args.m ≤ 496)
counts c =
    let w = counts_out _ _ (sym c.counts_fit.ensures ∙ need_fine _ _ (sym c.needed.ensures ∙ c.in_ok-needed.was)) in
    (w.most, constraints_most _ _ w)

pub lists_fit-requires : goal.lists_fit-requires
lists_fit-requires c = (counts (goal.at.lists_fit-requires c).In_ok-needed).1

pub returns-in_err-needed-2 : goal.returns-in_err-needed-2
unfolding write_test
returns-in_err-needed-2 c =
    let i : c.from_residual-in_err-needed-2.result ≡ Err c.in_err-needed-2.field-0.0 = search rules in
    let q = goes _ _ (rw (← c.counts_fit.ensures) c.needed.ensures) c.in_ok-needed.was
    (stops _ _ refl (lent_first _ _ _ (ap (λ (b : Bool). need b Lent) (sym c.lists_fit.ensures) ∙ sym c.needed-2.ensures ∙ c.in_err-needed-2.was))) in
    record { result_value = told_refused _ _ q i; buf_after = buffer_refused _ _ q }

-- What test 13 says where it is fine: of two lists, and of the third.
lists : (c : In_ok-needed-2) → lists_fit c.args.n c.args.m (length c.args.domains.now) (length c.args.constraints.now) ≡ true
lists c = sym c.lists_fit.ensures ∙ need_fine _ _ (sym c.needed-2.ensures ∙ c.in_ok-needed-2.was)

records : (c : In_ok-t) → (whole_records c.args.ternaries.now ≡ true) × (c.in_ok-t.t ≡ count_in c.args.ternaries.now)
records c = lent_fine c.args.ternaries.now _ (sym c.count_records.ensures ∙ c.in_ok-t.ensures.ok_part)

pub returns-in_err-t : goal.returns-in_err-t
unfolding write_test
returns-in_err-t c =
    let i : c.from_residual-in_err-t.result ≡ Err c.in_err-t.field-0.0 = search rules in
    let l = lists (goal.at.returns-in_err-t c).In_ok-needed-2 in
    let q = goes _ _ (rw (← c.counts_fit.ensures) c.needed.ensures) c.in_ok-needed.was
    (stops _ _ refl (lent_last _ c.args.ternaries.now _ _ l c.count_records.ensures (sym c.ok_or.ensures.value ∙ c.in_err-t.was))) in
    record { result_value = told_refused _ _ q i; buf_after = buffer_refused _ _ q }

pub invariant_of-x : goal.invariant_of-x
invariant_of-x c = record { counts = counts (goal.at.invariant_of-x c).In_ok-needed }

pub rest_test-requires : goal.rest_test-requires
rest_test-requires c =
    record { lists = lists (goal.at.rest_test-requires c).In_ok-needed-2; records = records (goal.at.rest_test-requires c).In_ok-t }

pub returns-in_err-rest_test : goal.returns-in_err-rest_test
unfolding write_test
returns-in_err-rest_test c =
    let i : c.from_residual-in_err-rest_test.result ≡ Err c.in_err-rest_test.field-0.0 = search rules in
    let l = lists (goal.at.returns-in_err-rest_test c).In_ok-needed-2 in
    let r = records (goal.at.returns-in_err-rest_test c).In_ok-t in
    let q = goes _ _ (rw (← c.counts_fit.ensures) c.needed.ensures) c.in_ok-needed.was
    (goes _ _ refl (need_ok _ _ (both_ok _ _ l r.0))
    (sym c.in_err-rest_test.was ∙ c.rest_test.ensures)) in
    record { result_value = told_refused _ _ q i; buf_after = buffer_refused _ _ q }

-- The numbers pass all tests, where two lists have the right lengths and the third holds whole records.
fine : (c : In_ok-rest_test) →
    let a = c.args in
    lists_fit a.n a.m (length a.domains.now) (length a.constraints.now) ≡ true → whole_records a.ternaries.now ≡ true
    → write_test (handed a.n a.m a.rules a.universal a.domains.now a.constraints.now a.ternaries.now) (length a.buf.now) ≡ Fine
unfolding write_test
fine c l r =
    sym (goes _ _ (rw (← c.counts_fit.ensures) c.needed.ensures) c.in_ok-needed.was
    (goes _ _ refl (need_ok _ _ (both_ok _ _ l r)) (sym c.in_ok-rest_test.was ∙ c.rest_test.ensures)))

pub put-requires : goal.put-requires
put-requires c =
    let g = goal.at.put-requires c in
    let r = records g.In_ok-t in
    let w = writable _ _ (fine g.In_ok-rest_test (lists g.In_ok-needed-2) r.0) in
    record { sized = sized w; count = r.1; room = w.wide }

pub length-requires : goal.length-requires
length-requires c =
    let g = goal.at.length-requires c in
    let r = records g.In_ok-t in
    let w = writable _ _ (fine g.In_ok-rest_test (lists g.In_ok-needed-2) r.0) in
    omega (arith, r.1, w.few, length_most w)

pub returns : goal.returns
unfolding length_of
returns c =
    let g = goal.at.returns c in
    let r = records g.In_ok-t in
    let q = fine g.In_ok-rest_test (lists g.In_ok-needed-2) r.0 in
    record { result_value = told_length _ _ q _ (rw (← r.1) c.length.ensures); buf_after = c.put.ensures ∙ sym (buffer_stored _ _ q) }
