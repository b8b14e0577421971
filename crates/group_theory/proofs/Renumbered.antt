-- The variables of a group by their new numbers: old and new numbers are each other's, and ascend together.
use mathlib.Core.Path.{◌≡◌, sym, ap, ◌∙◌}
use mathlib.Core.Bool.{false}
use Prim.Native.Nat.{ℕ, suc, ◌<◌}
use native.Mathlib.Omega.{arith}
use lib.Dec.{T, eqb, eqb→eq}
use Rattle.mask.proofs.Logic.{by_lt, and_out}
use Rattle.mask.proofs.Places.{count_in, count_out, place-below, found_at_place, own_place}
use Rattle.game.specs.Problem.{Problem}
use Rattle.group.specs.Groups.{in_group, new_number, old_number, group_size}

module _ (P : Problem) (g : ℕ) where
  open P use {n}

  -- The variable with new number t is in the group and has this number.
  pub old_in : (t : ℕ) → t < group_size P g → T (in_group P g (old_number P g t)) × (new_number P g (old_number P g t) ≡ t)
  unfolding old_number new_number group_size
  old_in t h =
      let i = old_number P g t in
      let r = and_out (in_group P g i) (eqb (new_number P g i) t) (found_at_place n (in_group P g) t h).1 in
      (r.0, eqb→eq (new_number P g i) t r.1)

  -- A variable of the group has a new number below the group's size, and is the one with this number.
  pub new_below : (i : ℕ) → i < n → T (in_group P g i) → new_number P g i < group_size P g
  unfolding new_number group_size
  new_below i h t = place-below n (in_group P g) i h t

  pub old_new : (i : ℕ) → i < n → T (in_group P g i) → old_number P g (new_number P g i) ≡ i
  unfolding old_number new_number
  old_new i h t = own_place n (in_group P g) i h t

  -- The next new number is one more behind a variable of the group, else the same.
  pub new_next : (i : ℕ) → T (in_group P g i) → new_number P g (suc i) ≡ suc (new_number P g i)
  unfolding new_number
  new_next i t = count_in i (in_group P g) t

  pub new_same : (i : ℕ) → in_group P g i ≡ false → new_number P g (suc i) ≡ new_number P g i
  unfolding new_number
  new_same i e = count_out i (in_group P g) e

  -- "Renumbered in order".
  pub new_less : (j i : ℕ) → j < i → T (in_group P g j) → new_number P g j < new_number P g i
  unfolding new_number
  new_less j i l t = place-below i (in_group P g) j l t

  pub old_up : (s t : ℕ) → s < t → t < group_size P g → old_number P g s < old_number P g t
  old_up s t h l =
      let a = old_in s (omega arith) in
      let b = old_in t l in
      by_lt (old_number P g s) (old_number P g t) (λ z. z) λ z.
      by_lt (old_number P g t) (old_number P g s) (λ w. absurd (omega (arith, new_less (old_number P g t) (old_number P g s) w b.0, a.1, b.1))) λ w.
      let e : old_number P g s ≡ old_number P g t = omega arith in
      let c : s ≡ t = sym a.1 ∙ ap (new_number P g) e ∙ b.1 in
      absurd (omega arith)
