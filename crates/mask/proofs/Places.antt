-- Numbers that pass a test, by how many pass below them: their places in ascending order.
use mathlib.Core.Path.{◌≡◌, sym, ap, ◌∙◌}
use mathlib.Core.Bool.{Bool, true, false, ◌&&◌}
use Prim.Native.Nat.{ℕ, zero, suc, ◌+◌, ◌-◌, ◌≤◌, ◌<◌}
use native.Mathlib.Nat.{le_refl}
use native.Mathlib.Omega.{arith}
use lib.Dec.{T, eqb, eqb→eq}
use borrow.Author.Tests.{eq-eqb}
use Rattle.mask.specs.Range.{count, first}
use Rattle.mask.proofs.Logic.{holds, true_holds, fails, test, by_eq, by_lt, and_in, and_out}
use Rattle.mask.proofs.Range.{count_none, count_split, first_in}

-- One more where the next passes, no more where it does not.
pub count_in : (v : ℕ) (p : ℕ → Bool) → T (p v) → count (suc v) p ≡ suc (count v p)
unfolding count
count_in v p t = let e : p v ≡ true = holds t in rw e (omega arith)

pub count_out : (v : ℕ) (p : ℕ → Bool) → p v ≡ false → count (suc v) p ≡ count v p
unfolding count
count_out v p e = rw e (omega arith)

-- A number that passes has a place below the count.
pub place-below : (v : ℕ) (p : ℕ → Bool) (a : ℕ) → a < v → T (p a) → count a p < count v p
place-below zero p a h t = absurd (omega arith)
place-below (suc v) p a h t =
    by_eq a v (λ e. let t' : T (p v) = rw e at t in rw e (omega (arith, count_in v p t')))
    λ e. let ih = place-below v p a (omega arith) t in test (p v) (λ u. omega (arith, ih, count_in v p u)) (λ u. omega (arith, ih, count_out v p u))

-- Every place below the count is one's.
pub at_place : (v : ℕ) (p : ℕ → Bool) (k : ℕ) → k < count v p → (a : ℕ) × (a < v) × T (p a) × (count a p ≡ k)
unfolding count
at_place zero p k h = absurd (omega arith)
at_place (suc v) p k h = test (p v) (λ t. by_eq k (count v p) (λ e. (v, omega arith, t, sym e)) (λ e. more (at_place v p k (omega (arith, h, count_in v p t))))) (λ u. more (at_place v p k (omega (arith, h, count_out v p u))))
  where
    more : (a : ℕ) × (a < v) × T (p a) × (count a p ≡ k) → (a : ℕ) × (a < suc v) × T (p a) × (count a p ≡ k)
    more r = (r.0, omega (arith, r.1), r.2, r.3)

-- It is found by its place.
pub found_at_place : (v : ℕ) (p : ℕ → Bool) (k : ℕ) → k < count v p → let a = first v (λ a. p a && eqb (count a p) k) in (a < v) × T (p a && eqb (count a p) k)
found_at_place v p k h =
    let r = at_place v p k h in
    first_in v (λ a. p a && eqb (count a p) k) r.0 r.1 (and_in (p r.0) (eqb (count r.0 p) k) r.2 (true_holds (eq-eqb (count r.0 p) k r.3)))

-- Numbers that pass and have the same place are the same.
pub place_same : (p : ℕ → Bool) (a b : ℕ) → T (p a) → T (p b) → count a p ≡ count b p → a ≡ b
place_same p a b t u e =
    by_lt a b (λ h. absurd (omega (arith, place-below b p a h t)))
    λ h. by_lt b a (λ g. absurd (omega (arith, place-below a p b g u))) (λ g. omega arith)

-- Of two numbers the one with the higher place is the greater.
pub place_above : (p : ℕ → Bool) (a b : ℕ) → T (p b) → count a p < count b p → a < b
place_above p a b t h = by_lt a b (λ l. l) (λ l. by_eq a b (λ e. let z = ap (λ x. count x p) e in absurd (omega arith)) (λ e. absurd (omega (arith, place-below a p b (omega arith) t))))

-- A number that passes is the one at its own place.
pub own_place : (n : ℕ) (p : ℕ → Bool) (i : ℕ) → i < n → T (p i) → first n (λ a. p a && eqb (count a p) (count i p)) ≡ i
own_place n p i h t =
    let a = first n (λ a. p a && eqb (count a p) (count i p)) in
    let q = and_out (p a) (eqb (count a p) (count i p)) (found_at_place n p (count i p) (place-below n p i h t)).1 in
    place_same p a i q.0 t (eqb→eq (count a p) (count i p) q.1)

-- No more than one passes where any two that do are the same.
pub count-one : (v : ℕ) (p : ℕ → Bool) → ((a b : ℕ) → T (p a) → T (p b) → a ≡ b) → count v p ≤ 1
unfolding count
count-one zero p u = omega arith
count-one (suc v) p u =
    test (p v)
    (λ t. by_lt 0 (count v p) (λ l. let r = at_place v p 0 l in let e = u r.0 v r.2 t in absurd (omega (arith, r.1))) (λ l. omega (arith, count_in v p t)))
    (λ t. omega (arith, count-one v p u, count_out v p t))

-- Of those above i, which are fewer than v - i.
pub count-above : (v i : ℕ) (p : ℕ → Bool) → ((a : ℕ) → T (p a) → i < a) → count v p ≤ v - suc i
unfolding count
count-above zero i p u = omega arith
count-above (suc v) i p u =
    let r = count-above v i p u in
    test (p v) (λ t. let l = u v t in omega (arith, count_in v p t)) (λ t. omega (arith, count_out v p t))

-- ---- numbers that ascend and are those that pass: each has its own place

module _ (p : ℕ → Bool) (at : ℕ → ℕ) (m : ℕ) (up : (s t : ℕ) → s < t → t < m → at s < at t) (passes : (t : ℕ) → t < m → T (p (at t)))
    (only : (z : ℕ) → T (p z) → (t : ℕ) × (t < m) × (at t ≡ z)) where
  no_less : (s t : ℕ) → s ≤ t → t < m → at s ≤ at t
  no_less s t h l = by_eq s t (λ e. let z = ap at e in omega arith) (λ e. let g = up s t (omega arith) l in omega arith)

  -- Where the first t numbers lie below z and the others do not, t pass below z.
  passing : (t : ℕ) → t ≤ m → (z : ℕ) → ((s : ℕ) → s < t → at s < z) → ((s : ℕ) → t ≤ s → s < m → z ≤ at s) → count z p ≡ t
  passing zero h z low high = count_none z p (λ k l. fails λ u. let r = only k u in let g = high r.0 (omega arith) r.1 in omega (arith, r.2))
  passing (suc t) h z low high =
      let y = at t in
      let l : y < z = low t (omega arith) in
      let e : suc y + (z - suc y) ≡ z = omega arith in
      let none : count (z - suc y) (λ k. p (suc y + k)) ≡ 0 =
      count_none (z - suc y) (λ k. p (suc y + k)) λ k g. fails λ u.
      let r = only (suc y + k) u in
      by_lt t r.0 (λ b. let c = high r.0 b r.1 in omega (arith, r.2)) (λ b. let c = no_less r.0 t b (omega arith) in omega (arith, r.2))
      in
      let c = count_in y p (passes t (omega arith)) in
      let i = passing t (omega arith) y (λ s g. up s t g (omega arith)) (λ s g b. no_less t s g b) in
      ap (λ v. count v p) (sym e) ∙ count_split (suc y) (z - suc y) p ∙ omega (arith, none, c, i)

  -- Number t has place t, and m pass in all.
  pub place_is : (t : ℕ) → t < m → count (at t) p ≡ t
  place_is t h = passing t (omega arith) (at t) (λ s g. up s t g h) (λ s g b. no_less t s g b)

  pub all_pass : (z : ℕ) → ((t : ℕ) → t < m → at t < z) → count z p ≡ m
  all_pass z h = passing m (le_refl m) z h (λ s g b. absurd (omega arith))
