use Prim.Native.Nat.{ℕ, ◌<◌}
use mathlib.Core.Path.{◌≡◌, refl, sym, ap, ◌∙◌}
use mathlib.Core.Bool.{true, false}
use native.Mathlib.Numerals.{add-one}
use native.Mathlib.Omega.{arith}
use borrow.Author.Rules.{rules}
use Rattle.std.specs.Prelude.{Err}
use Rattle.refusal.proofs.Chain.{first_refusal, next_fine}
use Rattle.file_layout.specs.Layout.{TT, marked, body_at, ternary_at, leading}
use Rattle.file_layout.proofs.LayoutLaws.{leading_most, leading_more, leading_is}
use Rattle.file_records.specs.Records.{ternary_test, scope_at, last_scope, ternaries_test}
use Rattle.file_records.proofs.ternaries.ternaries_test.Goals as goal
use Rattle.file_records.proofs.ternaries.ternaries_test.Goals.{After-is_marked, After-ternary_test, After-loop-count}

pub loop-count-init : goal.loop-count-init
unfolding ternaries_test last_scope ternary_at
loop-count-init c = (omega arith, refl, refl, refl, c.requires)

-- The mark is that of the record reached.
mark : (c : After-is_marked) → c.is_marked.result ≡ marked c.args.v.now.file.now (ternary_at c.args.v.now.file.now c.args.q c.loop-count.count) TT
mark c = c.is_marked.ensures ∙ ap (λ (p : ℕ). marked c.args.v.now.file.now p TT) c.loop-count.invariant.3

all : (c : After-is_marked) → c.is_marked.result ≡ false → leading c.args.v.now.file.now c.args.q 33 ≡ c.loop-count.count
all c e = leading_is _ _ 33 c.loop-count.count c.loop-count.invariant.0 (sym (mark c) ∙ e)

more : (c : After-is_marked) → c.is_marked.result ≡ true → c.loop-count.count < leading c.args.v.now.file.now c.args.q 33
more c e = leading_more _ _ 33 c.loop-count.count c.loop-count.invariant.0 c.loop-count-test.true (sym (mark c) ∙ e)

pub returns-then-not-is_marked-clause-verdict : goal.returns-then-not-is_marked-clause-verdict
returns-then-not-is_marked-clause-verdict c =
    let e = all (goal.at.returns-then-not-is_marked-clause-verdict c).After-is_marked c.if-not-is_marked.true in
    sym (ap (ternaries_test _ _ _ _) e ∙ c.loop-count.invariant.1)

pub returns-then-not-is_marked-clause-shows : goal.returns-then-not-is_marked-clause-shows
returns-then-not-is_marked-clause-shows c =
    let e = all (goal.at.returns-then-not-is_marked-clause-shows c).After-is_marked c.if-not-is_marked.true in
    record { count = sym e; end = c.loop-count.invariant.3 ∙ ap (ternary_at _ _) (sym e) }

-- The record's test, at its place.
tested_is : (c : After-ternary_test) → let v = c.args.v.now in
    c.ternary_test.result
    ≡ ternary_test v.file.now v.start v.n (last_scope v.file.now c.args.q c.loop-count.count) c.loop-count.count (ternary_at v.file.now c.args.q c.loop-count.count)
tested_is c = c.ternary_test.ensures ∙ rw (c.loop-count.invariant.2, c.loop-count.invariant.3) refl

pub returns-in_err-ternary_test-clause-verdict : goal.returns-in_err-ternary_test-clause-verdict
unfolding ternaries_test
returns-in_err-ternary_test-clause-verdict c =
    let v = c.args.v.now in
    let l = more (goal.at.returns-in_err-ternary_test-clause-verdict c).After-is_marked c.if-not-is_marked.false in
    let q : c.from_residual.result ≡ Err c.in_err-ternary_test.field-0.0 = search rules in
    rw q
    (first_refusal (ternaries_test v.file.now v.start v.n c.args.q)
    (λ (k : ℕ). ternary_test v.file.now v.start v.n (last_scope v.file.now c.args.q k) k (ternary_at v.file.now c.args.q k))
    (λ k. refl) c.loop-count.count _ l c.loop-count.invariant.1 (tested_is (goal.at.returns-in_err-ternary_test-clause-verdict c).After-ternary_test) c.in_err-ternary_test.was)

pub loop-count-preserved : goal.loop-count-preserved
unfolding ternaries_test last_scope ternary_at
loop-count-preserved c =
    let v = c.args.v.now in
    let l = more (goal.at.loop-count-preserved c).After-is_marked c.if-not-is_marked.false in
    let p = c.loop-count.invariant.3 in
    rw add-one (
      omega arith,
      next_fine (ternaries_test v.file.now v.start v.n c.args.q)
          (λ (k : ℕ). ternary_test v.file.now v.start v.n (last_scope v.file.now c.args.q k) k (ternary_at v.file.now c.args.q k))
          (λ k. refl) c.loop-count.count c.loop-count.invariant.1 (tested_is (goal.at.loop-count-preserved c).After-ternary_test) c.in_ok-ternary_test.was,
      c.scope-last.ensures ∙ ap (scope_at v.file.now) p,
      omega (arith, p, c.body.ensures.0, ap (body_at v.file.now) p),
      omega (arith, c.loop-count.invariant.4, c.body.ensures.1),
    )

-- All 33 are counted.
whole : (c : After-loop-count) → leading c.args.v.now.file.now c.args.q 33 ≡ c.loop-count.count
whole c = omega (arith, c.loop-count.invariant.0, leading_most c.args.v.now.file.now c.args.q 33)

pub returns-clause-verdict : goal.returns-clause-verdict
returns-clause-verdict c =
    sym (ap (ternaries_test _ _ _ _) (whole (goal.at.returns-clause-verdict c).After-loop-count) ∙ c.loop-count.invariant.1)

pub returns-clause-shows : goal.returns-clause-shows
returns-clause-shows c =
    let e = whole (goal.at.returns-clause-shows c).After-loop-count in
    record { count = omega arith; end = c.loop-count.invariant.3 ∙ ap (ternary_at _ _) (sym e) }
