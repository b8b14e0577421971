use mathlib.Core.Path.{◌≡◌, refl, ◌∙◌}
use Prim.Native.Nat.{ℕ}
use mathlib.Core.List.{List}
use native.Mathlib.Numerals.{add-one}
use borrow.Author.Rules.{rules}
use Rattle.refusal.specs.Chain.{Test}
use Rattle.refusal.proofs.Chain.{first_refusal, next_fine}
use Rattle.file_layout.specs.Numbers.{constraint_fits}
use Rattle.file_bytes.specs.Bytes.{domain_in, one_in, two_in, row_handed}
use Rattle.file_writer.specs.Tests.{pair_in, last_in, constraints_test}
use Rattle.file_writer.proofs.tests.constraints_test.Goals as goal
use Rattle.file_writer.proofs.tests.constraints_test.Goals.{After-constraint_fits}

pub loop-t-init : goal.loop-t-init
unfolding constraints_test last_in
loop-t-init c = (refl, refl)

-- The test of constraint t, which the call makes.
abbrev test : List ℕ → ℕ → List ℕ → ℕ → Test
test domains n xs t = constraint_fits (domain_in domains) n (last_in xs t) (one_in xs t) (two_in xs t) (row_handed xs t)

fits : (c : After-constraint_fits) → c.constraint_fits.result ≡ test c.args.domains.now c.args.x.n c.args.xs.now c.loop-t.t-counter
fits c =
    rw (← c.loop-t.invariant.1)
    (c.constraint_fits.ensures (domain_in c.args.domains.now) (row_handed c.args.xs.now c.loop-t.t-counter) (λ v x h p. search rules) (λ a x h p. search rules))

pub returns-in_err-constraint_fits : goal.returns-in_err-constraint_fits
unfolding constraints_test
returns-in_err-constraint_fits c =
    let a = c.args in
    (search rules)
    ∙ first_refusal (constraints_test (domain_in a.domains.now) a.x.n a.xs.now) (test a.domains.now a.x.n a.xs.now) (λ k. refl) _ _
    c.loop-t-test.true c.loop-t.invariant.0 (fits (goal.at.returns-in_err-constraint_fits c).After-constraint_fits) c.in_err-constraint_fits.was

pub loop-t-preserved : goal.loop-t-preserved
unfolding constraints_test last_in pair_in
loop-t-preserved c =
    let a = c.args in
    rw add-one (
      next_fine (constraints_test (domain_in a.domains.now) a.x.n a.xs.now) (test a.domains.now a.x.n a.xs.now) (λ k. refl) _
          c.loop-t.invariant.0 (fits (goal.at.loop-t-preserved c).After-constraint_fits) c.in_ok-constraint_fits.was,
      c.pair_of-last.ensures,
    )
