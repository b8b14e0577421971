-- The test of rule 6 after a loss below, and the set of rule 2 in a last turn.
use mathlib.Core.Path.{◌≡◌, sym, ap, ap₂, ◌∙◌}
use mathlib.Core.Bool.{Bool, true, false, cond, not, ◌&&◌}
use Prim.Native.Nat.{ℕ}
use lib.Dec.{eqb}
use borrow.Author.Tests.{eq-eqb, ne_eqb}

pub jump_on : (on u y b : Bool) → on ≡ u → on ≡ true → y ≡ b → not y ≡ (u && not b)
jump_on on u y b e t q = ap₂ (λ v x. v && not x) (sym t ∙ e) q

pub jump_off : (on u b : Bool) → on ≡ u → on ≡ false → false ≡ (u && b)
jump_off on u b e t = ap (λ v. v && b) (sym t ∙ e)

-- The set m is rule 2's own in a first turn where the rule is used.
pub own_used : (c m : ℕ) (on u : Bool) → c ≡ 0 → on ≡ u → on ≡ true → m ≡ cond (eqb c 0 && u) m 0
own_used c m on u z e t = sym (ap₂ (λ v x. cond (v && x) m 0) (eq-eqb c 0 z) (sym e ∙ t))

pub own_unused : (c m : ℕ) (on u : Bool) → c ≡ 0 → on ≡ u → on ≡ false → 0 ≡ cond (eqb c 0 && u) m 0
own_unused c m on u z e t = sym (ap₂ (λ v x. cond (v && x) m 0) (eq-eqb c 0 z) (sym e ∙ t))

pub own_below : (c m : ℕ) (u : Bool) → ¬ (c ≡ 0) → 0 ≡ cond (eqb c 0 && u) m 0
own_below c m u z = sym (ap (λ v. cond (v && u) m 0) (ne_eqb c 0 z))
