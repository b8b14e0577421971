-- Lists that are joined: how long they are. Sums.
use mathlib.Core.Path.{◌≡◌, refl, sym, ap}
use mathlib.Core.Bool.{Bool, true, false, cond}
use mathlib.Core.List.{List, [], ◌∷◌}
use Prim.Native.Nat.{ℕ, zero, suc, ◌+◌, ◌*◌, ◌≤◌, ◌<◌}
use native.Mathlib.Nat.{mul-zero, mul-suc, mul-add}
use native.Mathlib.Omega.{arith}
use lib.Dec.{T}
use lib.ListN.{length, length-append}
use Rattle.mask.specs.Range.{count}
use Rattle.mask.proofs.Logic.{holds, test, by_eq}
use Rattle.mask.proofs.Places.{count_in, count_out, count-one}
use Rattle.buffer.specs.Stored.{joined}
use Rattle.formula.specs.Formula.{only_if}
use Rattle.formula.proofs.OnlyLaws.{only_in, only_out}

-- Some where one has some.
pub joined_has : {A : Type 0} (g : ℕ → List A) (k i : ℕ) → i < k → 0 < length (g i) → 0 < length (joined g k)
unfolding joined
joined_has g zero i h l = absurd (omega arith)
joined_has g (suc k) i h l =
    by_eq i k (λ e. let l' : 0 < length (g k) = rw e at l in omega (arith, length-append (joined g k) (g k)))
    (λ e. let r = joined_has g k i (omega arith) l in omega (arith, length-append (joined g k) (g k)))

-- Under a test.
pub if_most : {A : Type 0} (b : Bool) (xs : List A) (w : ℕ) → length xs ≤ w → length (only_if b xs) ≤ w
unfolding only_if
if_most true xs w h = h
if_most false xs w h = omega arith

pub only_one : {A : Type 0} (b : Bool) (x : A) → length (only_if b (x ∷ [])) ≡ cond b 1 0
unfolding only_if
only_one true x = refl
only_one false x = refl

-- ---- sums

-- g 0 + g 1 + .. of the numbers below k.
unfoldable pub total : (ℕ → ℕ) → ℕ → ℕ
total g zero = 0
total g (suc k) = total g k + g k

pub total_longer : (g : ℕ → ℕ) (j k : ℕ) → j ≤ k → total g j ≤ total g k
unfolding total
total_longer g j zero h = let e : j ≡ 0 = omega arith in rw e (omega arith)
total_longer g j (suc k) h = by_eq j (suc k) (λ e. rw e (omega arith)) (λ e. let r = total_longer g j k (omega arith) in omega arith)

pub total_plus : (f g : ℕ → ℕ) (k : ℕ) → total (λ i. f i + g i) k ≡ total f k + total g k
unfolding total
total_plus f g zero = refl
total_plus f g (suc k) = let r = total_plus f g k in omega arith

pub total_times : (w : ℕ) (g : ℕ → ℕ) (k : ℕ) → total (λ i. w * g i) k ≡ w * total g k
unfolding total
total_times w g zero = sym (mul-zero w)
total_times w g (suc k) = let r = total_times w g k in let d = mul-add w (total g k) (g k) in omega arith

total_none : (k : ℕ) → total (λ i. 0) k ≡ 0
unfolding total
total_none zero = refl
total_none (suc k) = let r = total_none k in omega arith

total-count : (p : ℕ → Bool) (k : ℕ) → total (λ i. cond (p i) 1 0) k ≡ count k p
unfolding total count
total-count p zero = refl
total-count p (suc k) = let r = total-count p k in omega arith

-- Where each c has p with no more than one number, those that have the numbers are no more than the c.
pub shares : (p : ℕ → ℕ → Bool) → ((c a b : ℕ) → T (p c a) → T (p c b) → a ≡ b) → (k w : ℕ) → total (λ a. count w (λ c. p c a)) k ≤ w
unfolding count
shares p u k zero = let z = total_none k in omega arith
shares p u k (suc w) =
    let r = shares p u k w in
    let e = total_plus (λ a. count w (λ c. p c a)) (λ a. cond (p w a) 1 0) k in
    let f = total-count (p w) k in
    let o = count-one k (p w) (u w) in
    omega arith

-- ---- joined lists by sums

-- No more than f i from each i.
pub joined-total : {A : Type 0} (g : ℕ → List A) (f : ℕ → ℕ) (k : ℕ) → ((i : ℕ) → i < k → length (g i) ≤ f i) → length (joined g k) ≤ total f k
unfolding joined total
joined-total g f zero h = omega arith
joined-total g f (suc k) h =
    let r = joined-total g f k (λ i l. h i (omega arith)) in let s = h k (omega arith) in omega (arith, length-append (joined g k) (g k))

-- No more than w from each that passes p.
pub joined_chosen : {A : Type 0} (p : ℕ → Bool) (g : ℕ → List A) (w k : ℕ) → ((i : ℕ) → i < k → T (p i) → length (g i) ≤ w)
    → length (joined (λ i. only_if (p i) (g i)) k) ≤ w * count k p
unfolding joined
joined_chosen p g w zero h = omega arith
joined_chosen p g w (suc k) h =
    let r = joined_chosen p g w k (λ i l. h i (omega arith)) in
    let a = length-append (joined (λ i. only_if (p i) (g i)) k) (only_if (p k) (g k)) in
    test (p k)
    (λ t. let s = h k (omega arith) t in let m = mul-suc w (count k p) in let l : length (only_if (p k) (g k)) ≡ length (g k) = ap length (only_in (g k) (holds t)) in rw (count_in k p t) (omega arith))
    (λ t. let l : length (only_if (p k) (g k)) ≡ 0 = ap length (only_out (g k) t) in rw (count_out k p t) (omega arith))
