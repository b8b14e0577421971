-- Rule 4 with names: what is replied of a problem, and over the arrays.
use Rattle.std.specs.Prelude.{◌≡◌, cond, List, ℕ}
use Rattle.mask.specs.Mask.{mask_of}
use Rattle.game.specs.Problem.{Problem}
use Rattle.game.specs.Lists.{domains, list_of}
use Rattle.game.specs.Pure.{pure, is_impure, clash_variable, clash_value}
use Rattle.solver_arrays.specs.Arrays.{States}
use Rattle.solver_arrays.specs.Words.{list_in}
use Rattle.solver_arrays.specs.declared.arrays.Arrays.{Arrays}
use Rattle.rule_narrow.specs.declared.names.Clash.{Clash}
use Rattle.rule_narrow.specs.declared.names.PureNames.{PureNames}

-- The pure values of x over the list l, and the other values of its domain; at the place of each of these "the first choice and option in that
-- order which it does not go with", "and nothing for the others": zero.
unfoldable pub pure_names : Problem → ℕ → List ℕ → PureNames
pure_names P x l =
    let D = domains l in
    let impure = is_impure P D x in
    record {
      pure = pure P x l;
      impure = mask_of 16 impure;
      variables = list_of 16 (λ a. cond (impure a) (clash_variable P D x a) 0);
      values = list_of 16 (λ a. cond (impure a) (clash_value P D x a) 0);
    }

-- In every problem that the arrays state c is the first clash of value a of x, and r rule 4's reply at x.
abbrev pub FirstClash : (A : Arrays) (x : ℕ) (w : List ℕ) (a : ℕ) (c : Clash) → Type 0
FirstClash A x w a c =
    (P : Problem) → States P A.n A → let D = domains (list_in A.n w) in (c.variable ≡ clash_variable P D x a) × (c.value ≡ clash_value P D x a)

abbrev pub NamesPure : (A : Arrays) (x : ℕ) (w : List ℕ) (r : PureNames) → Type 0
NamesPure A x w r = (P : Problem) → States P A.n A → r ≡ pure_names P x (list_in A.n w)
