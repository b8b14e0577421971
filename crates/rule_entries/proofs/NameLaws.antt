-- Rule 4's reply: what is told of the names by their arrays is what is told of the game.
use Prim.Native.Nat.{ℕ}
use mathlib.Core.Path.{◌≡◌, refl, ap}
use mathlib.Core.Bool.{Bool, true, false, cond}
use mathlib.Core.List.{List, [], ◌∷◌}
use Rattle.mask.proofs.Masks.{bit-mask_of}
use Rattle.buffer.proofs.StoredLaws.{joined_same}
use Rattle.game.specs.Problem.{Problem}
use Rattle.game.specs.Lists.{domains}
use Rattle.game.specs.Pure.{pure, is_impure, clash_variable, clash_value}
use Rattle.theory.proofs.Lists.{get_d_list_of}
use Rattle.rule_narrow.specs.Names.{pure_names}
use Rattle.rule_entries.specs.Alone.{name_values, names_told}

-- A value with its two names, where it is named.
pub told_pure_names : (P : Problem) (x : ℕ) (l : List ℕ) → name_values (pure_names P x l) ≡ pure P x l ∷ names_told P l x
unfolding pure_names names_told
told_pure_names P x l =
    ap (λ (ns : List ℕ). pure P x l ∷ ns) (joined_same _ _ 16 λ a h.
    rw (
      bit-mask_of 16 (is_impure P (domains l) x) a h,
      get_d_list_of 16 (λ a. cond (is_impure P (domains l) x a) (clash_variable P (domains l) x a) 0) a h,
      get_d_list_of 16 (λ a. cond (is_impure P (domains l) x a) (clash_value P (domains l) x a) 0) a h,
    )
    (either (is_impure P (domains l) x a) a (clash_variable P (domains l) x a) (clash_value P (domains l) x a)))
  where
    either : (b : Bool) (a j v : ℕ) → cond b (a ∷ cond b j 0 ∷ cond b v 0 ∷ []) [] ≡ cond b (a ∷ j ∷ v ∷ []) []
    either true a j v = refl
    either false a j v = refl
