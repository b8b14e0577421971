-- Problems made of the constraints of their pairs, for samples.
use mathlib.Core.Path.{◌≡◌, refl}
use mathlib.Core.Bool.{Bool, true, false, not, ◌&&◌, ◌||◌}
use mathlib.Core.List.{List, [], ◌∷◌}
use lib.ListN.{get_or, length}
use Prim.Native.Nat.{ℕ, zero, suc, ◌<◌}
use lib.Dec.{T, T_not, eqb, eqb_refl, ltb, ltb→lt}
use native.Mathlib.Omega.{arith}
use borrow.Author.Tests.{le-ltb, ltb-true}
use Rattle.mask.proofs.Logic.{and_out, clash}
use Rattle.game.specs.Problem.{Problem}

-- Of a pair i < j, has tells whether it has a constraint, and t which values are compatible.
abbrev of_pair : (ℕ → ℕ → Bool) → (ℕ → ℕ → ℕ → ℕ → Bool) → Bool → Bool → ℕ → ℕ → ℕ → ℕ → Bool
of_pair has t true r i a j b = not (has i j) || t i a j b
of_pair has t false true i a j b = not (has j i) || t j b i a
of_pair has t false false i a j b = true

-- Both directions of the pairs; they are symmetric, and free where no constraint stands.
abbrev both : (ℕ → ℕ → Bool) → (ℕ → ℕ → ℕ → ℕ → Bool) → ℕ → ℕ → ℕ → ℕ → Bool
both has t i a j b = of_pair has t (ltb i j) (ltb j i) i a j b

pub both_symmetric : (has : ℕ → ℕ → Bool) (t : ℕ → ℕ → ℕ → ℕ → Bool) (i a j b : ℕ) → both has t i a j b ≡ both has t j b i a
both_symmetric has t i a j b = go (ltb i j) refl (ltb j i) refl
  where
    not-both : i < j → j < i → ⊥
    not-both h k = omega arith

    go : (l : Bool) → ltb i j ≡ l → (r : Bool) → ltb j i ≡ r → of_pair has t l r i a j b ≡ of_pair has t r l j b i a
    go true e true f = absurd (not-both (ltb-true i j e) (ltb-true j i f))
    go true e false f = refl
    go false e true f = refl
    go false e false f = refl

-- A constraint joins i and j, in their order; never a variable with itself.
abbrev pub joined : (ℕ → ℕ → Bool) → ℕ → ℕ → Bool
joined has i j = ltb i j && has i j || ltb j i && has j i

pub joined_apart : (has : ℕ → ℕ → Bool) (i j : ℕ) → T (joined has i j) → ¬ (i ≡ j)
joined_apart has i j t e = let u : T (joined has j j) = rw e at t in rw (le-ltb j j (omega arith)) at u

pub both_free : (has : ℕ → ℕ → Bool) (t : ℕ → ℕ → ℕ → ℕ → Bool) (i j : ℕ) → joined has i j ≡ false → (a b : ℕ) → T (both has t i a j b)
both_free has t i j e a b = go (ltb i j) (ltb j i) (has i j) refl (has j i) refl e
  where
    go : (l r h : Bool) → has i j ≡ h → (k : Bool) → has j i ≡ k → (l && h || r && k) ≡ false → T (of_pair has t l r i a j b)
    go true r true p k q e = absurd (clash e tt)
    go true r false p k q e = rw p tt
    go false true h p true q e = absurd (clash e tt)
    go false true h p false q e = rw q tt
    go false false h p k q e = tt

-- The masks of a list are none zero and of 16 bits.
abbrev pub masks_ok : List ℕ → Bool
masks_ok [] = true
masks_ok (m ∷ l) = (not (eqb m 0) && ltb m 65536) && masks_ok l

-- So they are bounded and not empty.
pub ok_bounded : (l : List ℕ) → T (masks_ok l) → (i : ℕ) → get_or l i 0 < 65536
ok_bounded [] h i = omega arith
ok_bounded (m ∷ l) h zero = ltb→lt m 65536 (and_out (not (eqb m 0)) (ltb m 65536) (and_out (not (eqb m 0) && ltb m 65536) (masks_ok l) h).0).1
ok_bounded (m ∷ l) h (suc i) = ok_bounded l (and_out (not (eqb m 0) && ltb m 65536) (masks_ok l) h).1 i

pub ok_nonempty : (l : List ℕ) → T (masks_ok l) → (i : ℕ) → i < length l → ¬ (get_or l i 0 ≡ 0)
ok_nonempty [] h i k = absurd (omega arith)
ok_nonempty (m ∷ l) h zero k =
    λ e. T_not (eqb m 0) (and_out (not (eqb m 0)) (ltb m 65536) (and_out (not (eqb m 0) && ltb m 65536) (masks_ok l) h).0).0 (rw e (eqb_refl 0))
ok_nonempty (m ∷ l) h (suc i) k = ok_nonempty l (and_out (not (eqb m 0) && ltb m 65536) (masks_ok l) h).1 i (omega arith)

-- A problem of its universal variables, its masks, the pairs that have a constraint, and the compatible values of a pair.
abbrev pub mk_problem : (universal : ℕ → Bool) (domain : List ℕ) → T (masks_ok domain) → (ℕ → ℕ → Bool) → (ℕ → ℕ → ℕ → ℕ → Bool) → Problem
mk_problem universal domain ok has t = record {
  n = length domain;
  domain = domain;
  sized = refl;
  bounded = ok_bounded domain ok;
  nonempty = ok_nonempty domain ok;
  universal = universal;
  compatible = both has t;
  symmetric = both_symmetric has t;
  constrained = joined has;
  apart = joined_apart has;
  free = both_free has t;
}
