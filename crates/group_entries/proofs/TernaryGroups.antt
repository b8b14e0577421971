-- The groups of an ordinary problem: a three-way constraint joins its three variables and its hidden one, so every group has a variable of the
-- problem's own.
use mathlib.Core.Path.{◌≡◌, refl, sym}
use mathlib.Core.Bool.{false, or-true}
use Prim.Native.Nat.{ℕ, ◌+◌, ◌≤◌, ◌<◌}
use native.Mathlib.Omega.{arith}
use lib.Dec.{T, eqb}
use borrow.Author.Tests.{eq-eqb, ne_eqb}
use Rattle.mask.proofs.Logic.{or_left}
use Rattle.mask.proofs.Range.{count-bound, count_split, count_none}
use Rattle.game.specs.Problem.{Problem}
use Rattle.game.specs.Ternary.{TernaryProblem}
use Rattle.ternary_theory.specs.Expanded.{touches, constrained_with, expanded}
use Rattle.ternary_theory.proofs.Parts.{hidden_joined}
use Rattle.problem_numbers.specs.Numbers.{tied}
use Rattle.group.specs.Groups.{smallest, leads, group_of, groups}
use Rattle.group_theory.proofs.GroupLaws.{group_tied, smallest_least}

module _ (J : TernaryProblem) where
  open J use {binary, ternary, one, two, three}
  open binary use {n}

  abbrev P : Problem
  P = expanded J

  touched : (r x : ℕ) → r < ternary → x < n → T (touches J r x) → group_of P x ≡ group_of P (n + r)
  unfolding tied expanded
  touched r x h k t =
      group_tied P x (n + r) (omega arith) (omega arith)
      (or_left (constrained_with J x (n + r)) (constrained_with J (n + r) x) (rw (hidden_joined J x r k h) t))

  -- "A table to each of the three": they lie in the hidden variable's group.
  pub one_group : (r : ℕ) → r < ternary
      → (group_of P (one r) ≡ group_of P (n + r)) × (group_of P (two r) ≡ group_of P (n + r)) × (group_of P (three r) ≡ group_of P (n + r))
  unfolding touches
  one_group r h =
      let o = J.order r h in (
        touched r (one r) h (omega (arith, o)) (rw (eq-eqb (one r) (one r) refl) tt),
        touched r (two r) h (omega (arith, o)) (rw (eq-eqb (two r) (two r) refl, or-true (eqb (two r) (one r))) tt),
        touched r (three r) h (omega (arith, o)) (rw (eq-eqb (three r) (three r) refl, or-true (eqb (three r) (two r)), or-true (eqb (three r) (one r))) tt),
      )

  hidden_follows : (r : ℕ) → r < ternary → leads P (n + r) ≡ false
  unfolding leads expanded
  hidden_follows r h =
      let o = J.order r h in
      ne_eqb (smallest P (n + r)) (n + r)
      (λ e. let s = smallest_least P (n + r) (one r) (omega arith) (omega (arith, o)) (sym (one_group r h).0) in omega (arith, s, e, o))

  -- At most as many groups as the problem has variables of its own.
  pub groups_own : groups P ≤ n
  unfolding groups expanded
  groups_own =
      let s = count_split n ternary (leads P) in
      let z = count_none ternary (λ r. leads P (n + r)) hidden_follows in
      let b = count-bound n (leads P) in
      omega (arith, s, z, b)
