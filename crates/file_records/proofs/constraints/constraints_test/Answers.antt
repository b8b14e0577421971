use Prim.Native.Nat.{ℕ, ◌+◌, ◌*◌}
use mathlib.Core.Path.{refl, sym, ap, ◌∙◌}
use native.Mathlib.Numerals.{add-one}
use native.Mathlib.Omega.{arith}
use borrow.Author.Rules.{rules}
use Rattle.refusal.proofs.Chain.{first_refusal, next_fine}
use Rattle.file_records.specs.Records.{constraint_test, last_pair, constraints_test}
use Rattle.file_records.proofs.constraints.constraints_test.Goals as goal

pub loop-k-init : goal.loop-k-init
unfolding constraints_test last_pair
loop-k-init c = (refl, refl)

pub loop-k-preserved : goal.loop-k-preserved
unfolding constraints_test last_pair
loop-k-preserved c = rw add-one (
  next_fine (constraints_test _ _ _ _) (λ (k : ℕ). constraint_test _ _ _ (last_pair _ _ k) (_ + 36 * k)) (λ k. refl) _ c.loop-k.invariant.0 (cc) c.in_ok-constraint_test.was,
  c.pair-last.ensures.0,
)

pub returns-in_err-constraint_test : goal.returns-in_err-constraint_test
unfolding constraints_test
returns-in_err-constraint_test c =
    (search rules)
    ∙ first_refusal (constraints_test _ _ _ _) (λ (k : ℕ). constraint_test _ _ _ (last_pair _ _ k) (_ + 36 * k)) (λ k. refl) _ _ c.loop-k-test.true c.loop-k.invariant.0 (cc) c.in_err-constraint_test.was

pub returns : goal.returns
returns c = sym (ap (constraints_test _ _ _ _) (omega arith) ∙ c.loop-k.invariant.0)
