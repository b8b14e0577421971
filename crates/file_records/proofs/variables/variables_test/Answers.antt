use Prim.Native.Nat.{ℕ, ◌+◌, ◌*◌}
use mathlib.Core.Path.{refl, sym, ap, ◌∙◌}
use native.Mathlib.Numerals.{add-one}
use native.Mathlib.Omega.{arith}
use borrow.Author.Rules.{rules}
use Rattle.refusal.proofs.Chain.{first_refusal, next_fine}
use Rattle.file_records.specs.Records.{variable_test, variables_test}
use Rattle.file_records.proofs.variables.variables_test.Goals as goal

pub loop-k-init : goal.loop-k-init
unfolding variables_test
loop-k-init c = refl

pub loop-k-preserved : goal.loop-k-preserved
unfolding variables_test
loop-k-preserved c = rw add-one (next_fine (variables_test _ _) (λ (k : ℕ). variable_test _ (_ + 4 * k)) (λ k. refl) _ c.loop-k.invariant c.variable_test.ensures c.in_ok-variable_test.was)

pub returns-in_err-variable_test : goal.returns-in_err-variable_test
unfolding variables_test
returns-in_err-variable_test c =
    (search rules)
    ∙ first_refusal (variables_test _ _) (λ (k : ℕ). variable_test _ (_ + 4 * k)) (λ k. refl) _ _ c.loop-k-test.true c.loop-k.invariant c.variable_test.ensures c.in_err-variable_test.was

pub returns : goal.returns
returns c = sym (ap (variables_test _ _) (omega arith) ∙ c.loop-k.invariant)
