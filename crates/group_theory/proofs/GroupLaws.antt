-- The groups of a problem: two variables are in one exactly if a chain of constraints joins them, and each group has a variable.
use mathlib.Core.Path.{◌≡◌, ap, ◌∙◌}
use Prim.Native.Nat.{ℕ, ◌≤◌, ◌<◌}
use native.Mathlib.Omega.{arith}
use lib.Dec.{T, eqb→eq}
use borrow.Author.Tests.{eq-eqb}
use Rattle.mask.specs.Range.{count}
use Rattle.mask.proofs.Logic.{true_holds}
use Rattle.mask.proofs.Range.{count-bound}
use Rattle.mask.proofs.Places.{place-below, at_place, place_same}
use Rattle.game.specs.Problem.{Problem}
use Rattle.problem_numbers.specs.Numbers.{tied}
use Rattle.group.specs.Groups.{Chain, here, link, smallest, leads, group_of, groups, in_group, new_number, group_size}
use Rattle.group_theory.proofs.Labels.{chain_label, label_chain, smallest_most, smallest_own}

module _ (P : Problem) where
  open P use {n}

  leads_smallest : (i : ℕ) → i < n → T (leads P (smallest P i))
  unfolding leads
  leads_smallest i h = true_holds (eq-eqb (smallest P (smallest P i)) (smallest P i) (smallest_own P i h))

  -- A variable is in its group, and in no other.
  pub group_in : (g i : ℕ) → group_of P i ≡ g → T (in_group P g i)
  unfolding in_group
  group_in g i e = true_holds (eq-eqb (group_of P i) g e)

  pub in_group-is : (g i : ℕ) → T (in_group P g i) → group_of P i ≡ g
  unfolding in_group
  in_group-is g i t = eqb→eq (group_of P i) g t

  -- "Two choices hang together if a chain of tables joins them": then they have the same group, and else they have not.
  pub group_chain : (i j : ℕ) → i < n → j < n → group_of P i ≡ group_of P j → Chain P i j
  unfolding group_of
  group_chain i j hi hj e = label_chain P i j hi hj (place_same (leads P) (smallest P i) (smallest P j) (leads_smallest i hi) (leads_smallest j hj) e)

  pub chain_group : {i j : ℕ} → Chain P i j → group_of P i ≡ group_of P j
  unfolding group_of
  chain_group c = ap (λ (k : ℕ). count k (leads P)) (chain_label P c)

  pub group_tied : (i j : ℕ) → i < n → j < n → T (tied P i j) → group_of P i ≡ group_of P j
  group_tied i j h l t = chain_group (link h l t here)

  -- The group of a variable is one of those that there are, and each of them has a variable.
  pub group_below : (i : ℕ) → i < n → group_of P i < groups P
  unfolding group_of groups
  group_below i h = place-below n (leads P) (smallest P i) (let m = smallest_most P i h in omega arith) (leads_smallest i h)

  pub group_some : (g : ℕ) → g < groups P → (i : ℕ) × (i < n) × (group_of P i ≡ g)
  unfolding groups group_of leads
  group_some g h =
      let r = at_place n (leads P) g h in
      (r.0, r.1, ap (λ (k : ℕ). count k (leads P)) (eqb→eq (smallest P r.0) r.0 r.2) ∙ r.3)

  -- "numbered from 0 by their smallest choice": the smallest variable of a group is one of it, no other of it is smaller, and groups are
  -- numbered as their smallest variables ascend.
  pub smallest_in : (i : ℕ) → i < n → group_of P (smallest P i) ≡ group_of P i
  unfolding group_of
  smallest_in i h = ap (λ (k : ℕ). count k (leads P)) (smallest_own P i h)

  pub smallest_least : (i j : ℕ) → i < n → j < n → group_of P i ≡ group_of P j → smallest P i ≤ j
  smallest_least i j h l e = let s = chain_label P (group_chain i j h l e) in omega (arith, s, smallest_most P j l)

  pub groups_ascend : (i j : ℕ) → i < n → smallest P i < smallest P j → group_of P i < group_of P j
  unfolding group_of
  groups_ascend i j h l = place-below (smallest P j) (leads P) (smallest P i) l (leads_smallest i h)

  -- So it has one at least, and no more than there are.
  pub group_full : (g : ℕ) → g < groups P → 0 < group_size P g
  unfolding group_size new_number
  group_full g h =
      let r = group_some g h in
      omega (arith, place-below n (in_group P g) r.0 r.1 (group_in g r.0 r.2))

  pub size_most : (g : ℕ) → group_size P g ≤ n
  unfolding group_size new_number
  size_most g = count-bound n (in_group P g)
