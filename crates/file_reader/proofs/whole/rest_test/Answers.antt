use Prim.Native.Nat.{ℕ, ◌+◌, ◌*◌, ◌≤◌}
use borrow.Author.Rules.{rules}
use mathlib.Core.Path.{◌≡◌, refl, sym, ap, ◌∙◌}
use mathlib.Core.List.{List}
use native.Mathlib.Omega.{arith}
use Rattle.std.specs.Prelude.{Err}
use Rattle.refusal.specs.Chain.{Verdict, Fine}
use Rattle.refusal.proofs.Chain.{stops, goes}
use Rattle.file_layout.specs.Layout.{n_of, m_of, t_of, variables_at, constraints_at, after_constraints, leading, end_at}
use Rattle.file_layout.proofs.NumberLaws.{constraints_most}
use Rattle.file_layout.proofs.LayoutLaws.{start_most, after_most}
use Rattle.file_records.proofs.RecordLaws.{qp_out, variables-within, end_most}
use Rattle.file_records.specs.Records.{qp_test, variables_test, constraints_test, ternaries_test, en_test, rest_test}
use Rattle.file_records.specs.declared.ternaries.Ternaries.{Ternaries}
use Rattle.file_records.specs.Tested.{TernariesOf}
use Rattle.file_reader.proofs.whole.rest_test.Goals as goal
use Rattle.file_reader.proofs.whole.rest_test.Goals.{After-constraints_test, In_ok-ternaries}

-- What QP says of the n variables from its end on.
bounds : (f : List ℕ) → qp_test f ≡ Fine → (start n : ℕ) → start ≡ variables_at f → n ≡ n_of f → (start ≤ 8) × (1 ≤ n) × (n ≤ 32)
bounds f e start n s k = let h = (qp_out f e).counts in omega (arith, start_most f)

-- Their tests, in the file's numbers.
variables_is :
    (f : List ℕ) (start n : ℕ) → start ≡ variables_at f → n ≡ n_of f → {r : Verdict} → r ≡ variables_test f start n → r ≡ variables_test f (variables_at f) (n_of f)
variables_is f start n s k e = e ∙ rw (s, k) refl

pub variables_test-requires : goal.variables_test-requires
variables_test-requires c = let b = bounds _ c.requires _ _ c.variables_at-start.ensures c.byte_at-n.ensures.0 in (b.0, b.2)

pub returns-in_err-variables_test : goal.returns-in_err-variables_test
unfolding rest_test
returns-in_err-variables_test c =
    let q : c.from_residual.result ≡ Err c.in_err-variables_test.field-0.0 = search rules in
    let v = variables_is _ _ _ c.variables_at-start.ensures c.byte_at-n.ensures.0 c.variables_test.ensures in
    rw q (record { verdict = stops _ _ v c.in_err-variables_test.was; shows = tt })

pub invariant_of-variables : goal.invariant_of-variables
invariant_of-variables c =
    let b = bounds _ c.requires _ _ c.variables_at-start.ensures c.byte_at-n.ensures.0 in
    record { near = b.0; most = b.2; whole = variables-within _ _ _ (sym c.variables_test.ensures ∙ c.in_ok-variables_test.was) b.1 }

pub word_at-m-requires : goal.word_at-m-requires
word_at-m-requires c = (qp_out _ c.requires).within

pub constraints_test-requires : goal.constraints_test-requires
constraints_test-requires c =
    let b = bounds _ c.requires _ _ c.variables_at-start.ensures c.byte_at-n.ensures.0 in
    let h = (qp_out _ c.requires).counts in
    (omega (arith, c.end-q.ensures), omega (arith, constraints_most _ _ h))

-- The tests behind the variables, in the file's numbers.
constraints_is :
    (c : After-constraints_test) → let f = c.args.f.now in
    c.constraints_test.result ≡ constraints_test f (variables_at f) (n_of f) (constraints_at f) (m_of f)
unfolding constraints_at
constraints_is c = c.constraints_test.ensures ∙ rw (c.end-q.ensures, c.variables_at-start.ensures, c.byte_at-n.ensures.0, c.word_at-m.ensures) refl

module _ (f : List ℕ) {start n e m : ℕ} (begins : start ≡ variables_at f) (count : n ≡ n_of f) (ends : e ≡ start + 4 * n) (many : m ≡ m_of f) where
  after_is : e + 36 * m ≡ after_constraints f
  unfolding after_constraints constraints_at
  after_is = rw (ends, begins, count, many) refl

  ternaries_is : (w : Verdict) → w ≡ ternaries_test f start n (e + 36 * m) (leading f (e + 36 * m) 33) →
      w ≡ ternaries_test f (variables_at f) (n_of f) (after_constraints f) (t_of f)
  unfolding t_of
  ternaries_is w q = q ∙ rw (after_is, begins, count) refl

  ternaries_shown : (t : Ternaries) → TernariesOf f (e + 36 * m) t → TernariesOf f (after_constraints f) t
  ternaries_shown t r = record { count = r.count ∙ rw after_is refl; end = r.end ∙ rw after_is refl }

-- Those counted are the file's and fine, and EN is tested behind them.
shown : (c : In_ok-ternaries) → TernariesOf c.args.f.now (after_constraints c.args.f.now) c.in_ok-ternaries.ternaries
shown c = ternaries_shown _ c.variables_at-start.ensures c.byte_at-n.ensures.0 c.end-q.ensures c.word_at-m.ensures _ c.in_ok-ternaries.ensures.shows

fine : (c : In_ok-ternaries) → let f = c.args.f.now in Fine ≡ ternaries_test f (variables_at f) (n_of f) (after_constraints f) (t_of f)
fine c = ternaries_is _ c.variables_at-start.ensures c.byte_at-n.ensures.0 c.end-q.ensures c.word_at-m.ensures _ c.in_ok-ternaries.ensures.verdict

en_is : (f : List ℕ) (t : Ternaries) {r : Verdict} → TernariesOf f (after_constraints f) t → r ≡ en_test f t.end → r ≡ en_test f (end_at f)
unfolding end_at t_of
en_is f t s q = q ∙ ap (en_test f) s.end

pub returns-in_err-constraints_test : goal.returns-in_err-constraints_test
unfolding rest_test
returns-in_err-constraints_test c =
    let q : c.from_residual-in_err-constraints_test.result ≡ Err c.in_err-constraints_test.field-0.0 = search rules in
    let t = constraints_is (goal.at.returns-in_err-constraints_test c).After-constraints_test in
    rw q (record {
      verdict = goes _ _ (variables_is _ _ _ c.variables_at-start.ensures c.byte_at-n.ensures.0 c.variables_test.ensures) c.in_ok-variables_test.was (stops _ _ t c.in_err-constraints_test.was);
      shows = tt;
    })

pub ternaries_test-requires : goal.ternaries_test-requires
ternaries_test-requires c =
    let h = (qp_out _ c.requires).counts in
    omega (arith, after_is _ c.variables_at-start.ensures c.byte_at-n.ensures.0 c.end-q.ensures c.word_at-m.ensures, after_most c.args.f.now 0 h (omega (arith, h.most)))

pub returns-in_err-ternaries : goal.returns-in_err-ternaries
unfolding rest_test
returns-in_err-ternaries c =
    let q : c.from_residual-in_err-ternaries.result ≡ Err c.in_err-ternaries.field-0.0 = search rules in
    let t = constraints_is (goal.at.returns-in_err-ternaries c).After-constraints_test in
    let r = ternaries_is _ c.variables_at-start.ensures c.byte_at-n.ensures.0 c.end-q.ensures c.word_at-m.ensures _ c.in_err-ternaries.ensures.verdict in
    rw q (record {
      verdict =
          goes _ _ (variables_is _ _ _ c.variables_at-start.ensures c.byte_at-n.ensures.0 c.variables_test.ensures) c.in_ok-variables_test.was
          (goes _ _ t c.in_ok-constraints_test.was (stops _ _ r refl));
      shows = tt;
    })

pub invariant_of-end : goal.invariant_of-end
unfolding end_at t_of
invariant_of-end c =
    let h = (qp_out _ c.requires).counts in
    let t = (goal.at.invariant_of-end c).In_ok-ternaries in
    record { near = omega (arith, (shown t).end, end_most c.args.f.now h (sym (fine t))) }

pub returns-in_err-en_test : goal.returns-in_err-en_test
unfolding rest_test
returns-in_err-en_test c =
    let q : c.from_residual-in_err-en_test.result ≡ Err c.in_err-en_test.field-0.0 = search rules in
    let t = constraints_is (goal.at.returns-in_err-en_test c).After-constraints_test in
    let k = (goal.at.returns-in_err-en_test c).In_ok-ternaries in
    let e = en_is _ _ (shown k) c.en_test.ensures in
    rw q (record {
      verdict =
          goes _ _ (variables_is _ _ _ c.variables_at-start.ensures c.byte_at-n.ensures.0 c.variables_test.ensures) c.in_ok-variables_test.was
          (goes _ _ t c.in_ok-constraints_test.was (goes _ _ (fine k) refl (sym c.in_err-en_test.was ∙ e)));
      shows = tt;
    })

pub returns : goal.returns
unfolding rest_test
returns c =
    let t = constraints_is (goal.at.returns c).After-constraints_test in
    let k = (goal.at.returns c).In_ok-ternaries in
    let e = en_is _ _ (shown k) c.en_test.ensures in
    record {
      verdict =
          goes _ _ (variables_is _ _ _ c.variables_at-start.ensures c.byte_at-n.ensures.0 c.variables_test.ensures) c.in_ok-variables_test.was
          (goes _ _ t c.in_ok-constraints_test.was (goes _ _ (fine k) refl (sym c.in_ok-en_test.was ∙ e)));
      shows = record { variables = record { file = refl; start = c.variables_at-start.ensures; count = c.byte_at-n.ensures.0 }; ternaries = shown k };
    }
