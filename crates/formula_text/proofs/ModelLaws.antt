-- What the code forms over the arrays is what the definition says of the problem that they state.
use mathlib.Core.Path.{◌≡◌, sym, ap, ap₂, ◌∙◌}
use mathlib.Core.Bool.{Bool, true, false, cond}
use mathlib.Core.List.{◌++◌}
use Prim.Native.Nat.{ℕ, suc, ◌+◌}
use native.Mathlib.Omega.{arith}
use lib.ListN.{length}
use Rattle.game.specs.Problem.{Problem}
use Rattle.formula.specs.Encoding.{formula_of}
use Rattle.formula.specs.Text.{header_text, prefix_text, clauses_text, text_of}
use Rattle.formula_theory.proofs.PrefixLaws.{booleans_all}
use Rattle.solver_arrays.specs.declared.arrays.Arrays.{Arrays}
use Rattle.solver_arrays.specs.Arrays.{Poses}
use Rattle.formula_text.specs.Body.{closes_in, all_in, booleans_in, clauses_in, body_text}
use Rattle.formula_text.proofs.CodedLaws.{all_is, closes_is}
use Rattle.formula_text.proofs.ClauseLaws.{clauses_are}
use Rattle.formula_text.proofs.PrefixText.{prefix_is}

one_more : (b : Bool) (x : ℕ) → cond b (suc x) x ≡ x + cond b 1 0
one_more true x = omega arith
one_more false x = omega arith

module _ (P : Problem) (A : Arrays) (S : Poses P A) where
  booleans_are : booleans_in A ≡ length (formula_of P).prefix
  unfolding booleans_in
  booleans_are =
      one_more (closes_in A) (all_in A)
      ∙ ap₂ (λ x b. x + cond b 1 0) (all_is P A S) (closes_is P A S)
      ∙ sym (booleans_all P)

  body_is : body_text A ≡ prefix_text (formula_of P).prefix ++ clauses_text (formula_of P).clauses
  unfolding body_text
  body_is = ap₂ (λ xs cs. xs ++ clauses_text cs) (prefix_is P A S) (clauses_are P A S)

  pub text_is : text_of (formula_of P) ≡ header_text (booleans_in A) (length (clauses_in A)) ++ body_text A
  unfolding text_of
  text_is =
      ap₂ (λ xs ys. xs ++ ys)
      (ap₂ header_text (sym booleans_are) (ap length (sym (clauses_are P A S))))
      (sym body_is)
