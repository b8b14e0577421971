-- Lists under a test, and those that are joined of them.
use mathlib.Core.Path.{◌≡◌, refl, sym, ap, ap₂, ◌∙◌}
use mathlib.Core.Bool.{Bool, true, false}
use mathlib.Core.List.{List, [], ◌++◌, append-nil}
use Prim.Native.Nat.{ℕ, zero, suc, ◌+◌, ◌-◌, ◌*◌, ◌%◌, ◌≤◌, ◌<◌}
use native.Mathlib.Nat.{mod-eq_of_lt, add-mod_left}
use native.Mathlib.Omega.{arith}
use lib.Dec.{T, eqb, ltb, ltb→lt, lt→ltb}
use borrow.Author.Tests.{eq-eqb, ne_eqb, lt-ltb, le-ltb}
use Rattle.mask.proofs.Logic.{same, by_eq}
use Rattle.buffer.specs.Stored.{joined}
use Rattle.buffer.proofs.StoredLaws.{joined_same, joined_split}
use Rattle.formula.specs.Formula.{only_if}

-- The test holds; it fails; two lists that agree where it holds.
pub only_in : {A : Type 0} {b : Bool} (xs : List A) → b ≡ true → only_if b xs ≡ xs
unfolding only_if
only_in xs e = rw e

pub only_out : {A : Type 0} {b : Bool} (xs : List A) → b ≡ false → only_if b xs ≡ []
unfolding only_if
only_out xs e = rw e

pub only_same : {A : Type 0} (b : Bool) (xs ys : List A) → (T b → xs ≡ ys) → only_if b xs ≡ only_if b ys
unfolding only_if
only_same true xs ys h = h tt
only_same false xs ys h = refl

-- The list of p alone.
joined-one : {A : Type 0} (g : ℕ → List A) (p k : ℕ) → joined (λ c. only_if (eqb c p) (g c)) k ≡ only_if (ltb p k) (g p)
unfolding joined
joined-one g p zero = sym (only_out (g p) (le-ltb p 0 (omega arith)))
joined-one g p (suc k) =
    by_eq k p
    (λ e.
    ap₂ (λ xs ys. xs ++ ys) (joined-one g p k ∙ only_out (g p) (le-ltb p k (omega arith))) (only_in (g k) (eq-eqb k p e) ∙ ap g e)
    ∙ sym (only_in (g p) (lt-ltb p (suc k) (omega arith))))
    (λ e.
    ap (λ ys. joined (λ c. only_if (eqb c p) (g c)) k ++ ys) (only_out (g k) (ne_eqb k p e))
    ∙ append-nil (joined (λ c. only_if (eqb c p) (g c)) k)
    ∙ joined-one g p k
    ∙ ap (λ b. only_if b (g p)) (same (ltb p k) (ltb p (suc k)) (λ t. lt→ltb p (suc k) (omega (arith, ltb→lt p k t))) (λ t. lt→ltb p k (omega (arith, ltb→lt p (suc k) t)))))

-- Of the numbers below w, which is d to 2 d, only p and p + d leave p behind when d is taken away as often as it goes.
pub joined-ways : {A : Type 0} (g : ℕ → List A) (d p w : ℕ) → p < d → d ≤ w → w ≤ 2 * d
    → joined (λ c. only_if (eqb (c % d) p) (g c)) w ≡ g p ++ only_if (ltb (p + d) w) (g (p + d))
joined-ways g d p w h k l =
    let e : d + (w - d) ≡ w = omega arith in
    ap (joined (λ c. only_if (eqb (c % d) p) (g c))) (sym e)
    ∙ joined_split (λ c. only_if (eqb (c % d) p) (g c)) d (w - d)
    ∙ ap₂ (λ xs ys. xs ++ ys)
    (joined_same (λ c. only_if (eqb (c % d) p) (g c)) (λ c. only_if (eqb c p) (g c)) d (λ i b. ap (λ x. only_if (eqb x p) (g i)) (mod-eq_of_lt b)) ∙ joined-one g p d ∙ only_in (g p) (lt-ltb p d h))
    (joined_same (λ i. only_if (eqb ((d + i) % d) p) (g (d + i))) (λ i. only_if (eqb i p) (g (d + i))) (w - d) (λ i b. ap (λ x. only_if (eqb x p) (g (d + i))) (add-mod_left d i ∙ mod-eq_of_lt (omega arith)))
    ∙ joined-one (λ i. g (d + i)) p (w - d)
    ∙ ap₂ (λ b x. only_if b (g x))
    (same (ltb p (w - d)) (ltb (p + d) w) (λ t. lt→ltb (p + d) w (omega (arith, ltb→lt p (w - d) t))) (λ t. lt→ltb p (w - d) (omega (arith, ltb→lt (p + d) w t))))
    (omega arith))
