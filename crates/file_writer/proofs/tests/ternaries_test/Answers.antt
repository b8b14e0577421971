use mathlib.Core.Path.{◌≡◌, refl, sym, ap, ap₂, ◌∙◌}
use mathlib.Core.Bool.{Bool}
use Prim.Native.Nat.{ℕ, ◌+◌}
use mathlib.Core.List.{List}
use lib.Dec.{leb}
use native.Mathlib.Numerals.{add-one}
use native.Mathlib.Omega.{arith}
use borrow.Author.Rules.{rules}
use Rattle.refusal.specs.declared.reason.Reason.TheVariants.{Triple, Many}
use Rattle.refusal.specs.Chain.{Test, ◌then◌, need}
use Rattle.refusal.proofs.Chain.{and_is, first_refusal, next_fine}
use Rattle.file_layout.specs.Numbers.{ternary_fits}
use Rattle.file_bytes.specs.Bytes.{domain_in, from, size_in, start_in}
use Rattle.file_bytes.proofs.WalkLaws.{size_least, start_first, start_next, few_counted, stands}
use Rattle.file_writer.specs.Tests.{scope_in, last_scope_in, ternaries_test}
use Rattle.file_writer.proofs.tests.ternaries_test.Goals as goal
use Rattle.file_writer.proofs.tests.ternaries_test.Goals.{After-and}

pub loop-k-init : goal.loop-k-init
unfolding ternaries_test last_scope_in
loop-k-init c = (refl, refl, sym (start_first c.args.xs.now), omega arith)

pub overflow_add-x : goal.overflow_add-x
overflow_add-x c = omega (arith, few_counted c.args.xs.now)

pub overflow_add-x-in-loop-k : goal.overflow_add-x-in-loop-k
overflow_add-x-in-loop-k c = omega (arith, few_counted c.args.xs.now)

-- The test of record k, which the calls make.
abbrev triple : List ℕ → ℕ → List ℕ → ℕ → Bool
triple domains n xs k = ternary_fits (domain_in domains) n (last_scope_in xs k) (from xs (start_in xs k))

abbrev test : List ℕ → ℕ → List ℕ → ℕ → Test
test domains n xs k = need (leb (n + k + 1) 32) Many then need (triple domains n xs k) Triple

fits : (c : After-and) → c.and.result ≡ test c.args.domains.now c.args.x.n c.args.xs.now c.loop-k.k
fits c =
    let a = c.args in
    let i = c.loop-k.invariant in
    let f : c.ternary_fits-fits.result ≡ triple a.domains.now a.x.n a.xs.now c.loop-k.k = rw (← i.1, ← i.2)
    (c.ternary_fits-fits.ensures (domain_in a.domains.now) (from a.xs.now c.loop-k.base) (λ v x h p. search rules) (λ k x h p. search rules)) in
    c.and.ensures ∙ and_is c.needed-many.result c.needed-triple.result
    ∙ ap₂ ◌then◌ c.needed-many.ensures (c.needed-triple.ensures ∙ ap (λ (b : Bool). need b Triple) f)

pub returns-in_err-and : goal.returns-in_err-and
unfolding ternaries_test
returns-in_err-and c =
    let a = c.args in
    (search rules)
    ∙ first_refusal (ternaries_test (domain_in a.domains.now) a.x.n a.xs.now) (test a.domains.now a.x.n a.xs.now) (λ k. refl) _ _
    c.loop-k-test.true c.loop-k.invariant.0 (fits (goal.at.returns-in_err-and c).After-and) c.in_err-and.was

pub size_in-requires : goal.size_in-requires
size_in-requires c =
    let xs = c.args.xs.now in
    let k = c.loop-k.k in
    omega (arith, c.loop-k.invariant.2, size_least xs (start_in xs k), stands xs k c.args.x.t (omega arith) (omega arith))

pub loop-k-preserved : goal.loop-k-preserved
unfolding ternaries_test last_scope_in scope_in
loop-k-preserved c =
    let a = c.args in
    let xs = a.xs.now in
    let k = c.loop-k.k in
    let i = c.loop-k.invariant in
    let e : c.size_in.result ≡ size_in xs (start_in xs k) = rw (← i.2) c.size_in.ensures.0 in
    rw add-one (
      next_fine (ternaries_test (domain_in a.domains.now) a.x.n xs) (test a.domains.now a.x.n xs) (λ k. refl) _
          i.0 (fits (goal.at.loop-k-preserved c).After-and) c.in_ok-and.was,
      c.scope_of-last.ensures ∙ rw (c.number_in.ensures, c.number_in-in-loop-k.ensures, c.number_in-in-loop-k-2.ensures, i.2) refl,
      omega (arith, i.2, e, start_next xs k),
      omega (arith, i.2, e, stands xs k a.x.t (omega arith) (omega arith)),
    )
