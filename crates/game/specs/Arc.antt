-- Rule 1, arc.
use Rattle.std.specs.Prelude.{Bool, true, cond, not, ◌&&◌, ◌||◌, List, ℕ, zero, suc, ◌*◌, ltb}
use Rattle.mask.specs.Range.{some}
use Rattle.game.specs.Problem.{Problem}
use Rattle.game.specs.Game.{Domains}
use Rattle.game.specs.Lists.{domains, masks_of}
use Rattle.game.specs.Support.{clashes, alone, empty}
use Rattle.game.specs.Rule.{ListRule}

module _ (P : Problem) where
  open P use {n, universal, compatible, constrained}

  -- "An option of a shift's choice is dead if, for some choice sharing a table, it clashes with some option (where that choice is the
  -- day's and later) or goes with none (in all other cases)."
  unfoldable pub dead : Domains → ℕ → ℕ → Bool
  dead D x a = some n (constrained x) (λ y. let s = clashes P D x a y in let r = alone P D x a y in cond (universal y && ltb x y) s r)

  -- "An option of a day's choice clashes with some option of another day's choice, or goes with none of a later shift's choice."
  unfoldable pub barred : Domains → ℕ → ℕ → ℕ → Bool
  barred D x a y = let s = clashes P D x a y in let r = ltb x y && alone P D x a y in cond (universal y) s r

  -- "Loss: a shift's mask is empty, or an option of a day's choice" is barred.
  unfoldable pub arc_loss : Domains → Bool
  arc_loss D = some n (λ x. true) (λ x. let u = some 16 (D x) (λ a. some n (constrained x) (barred D x a)) in let e = empty P D x in cond (universal x) u e)

  -- All dead values taken out at once, and so k times: of domains, and of a list.
  unfoldable pub sweep : Domains → Domains
  sweep D j a = (universal j || not (dead D j a)) && D j a

  unfoldable pub sweeps : ℕ → Domains → Domains
  sweeps zero D = D
  sweeps (suc k) D = sweeps k (sweep D)

  unfoldable pub swept : ℕ → List ℕ → List ℕ
  swept zero l = l
  swept (suc k) l = swept k (masks_of n (sweep (domains l)))

  -- "Dead options are removed until none is left; the list then holds that result, also in a loss." A list has at most 16 n values, so
  -- as many sweeps leave none dead; any other order of removal ends in the same list (theory, `arc_order`).
  unfoldable pub arc : ListRule
  arc l = let e = swept (16 * n) l in record { loss = arc_loss (domains e); list = e }
