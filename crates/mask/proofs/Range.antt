-- Laws of tests over a range: `each` against a function, `some` against a witness; bounds of `count` and `first`.
use mathlib.Core.Path.{◌≡◌, refl, sym, ap, ap₂, ◌∙◌}
use mathlib.Core.Bool.{Bool, true, false, cond, not, ◌&&◌, ◌||◌, and-false, and-true, or-false}
use Prim.Native.Nat.{ℕ, zero, suc, ◌+◌, ◌≤◌, ◌<◌}
use native.Mathlib.Nat.{le_refl, add-zero, add-suc}
use native.Mathlib.Omega.{arith}
use lib.Dec.{T, eqb, ltb}
use borrow.Author.Tests.{eq-eqb, ne_eqb, lt-ltb, le-ltb}
use Rattle.mask.specs.Range.{some, each, count, first}
use Rattle.mask.proofs.Logic.{same, holds, fails, clash, by_eq, by_lt, and_in, and_out, or_left, or_right}

-- `each` is a function, `some` a witness.
pub each_out : (v : ℕ) (d f : ℕ → Bool) → T (each v d f) → (a : ℕ) → a < v → T (d a) → T (f a)
unfolding each
each_out zero d f t a h m = absurd (omega arith)
each_out (suc v) d f t a h m =
    let q = and_out (not (d v) || f v) (each v d f) t in
    by_eq a v (λ e. rw e (imp (d v) (f v) q.0 (rw e at m))) (λ e. each_out v d f q.1 a (omega arith) m)
  where
    imp : (x y : Bool) → T (not x || y) → T x → T y
    imp true y s t = s
    imp false y s t = absurd t

pub each_in : (v : ℕ) (d f : ℕ → Bool) → ((a : ℕ) → a < v → T (d a) → T (f a)) → T (each v d f)
unfolding each
each_in zero d f h = tt
each_in (suc v) d f h =
    and_in (not (d v) || f v) (each v d f) (imp (d v) (f v) (h v (omega arith))) (each_in v d f (λ a l. h a (omega arith)))
  where
    imp : (x y : Bool) → (T x → T y) → T (not x || y)
    imp true y s = s tt
    imp false y s = tt

-- Tests that agree below v agree over the range.
pub each_eq : (v : ℕ) (d f g : ℕ → Bool) → ((a : ℕ) → a < v → f a ≡ g a) → each v d f ≡ each v d g
unfolding each
each_eq zero d f g e = refl
each_eq (suc v) d f g e = ap₂ ◌&&◌ (ap (λ (b : Bool). not (d v) || b) (e v (omega arith))) (each_eq v d f g (λ a l. e a (omega arith)))

pub some_eq : (v : ℕ) (d f g : ℕ → Bool) → ((a : ℕ) → a < v → f a ≡ g a) → some v d f ≡ some v d g
unfolding some
some_eq zero d f g e = refl
some_eq (suc v) d f g e = ap₂ ◌||◌ (ap (λ (b : Bool). d v && b) (e v (omega arith))) (some_eq v d f g (λ a l. e a (omega arith)))

pub some_out : (v : ℕ) (d f : ℕ → Bool) → T (some v d f) → (a : ℕ) × (a < v) × T (d a) × T (f a)
unfolding some
some_out zero d f t = absurd t
some_out (suc v) d f t = go (d v) (f v) refl refl t (some_out v d f)
  where
    go : (x y : Bool) → d v ≡ x → f v ≡ y → T (x && y || some v d f) → (T (some v d f) → (a : ℕ) × (a < v) × T (d a) × T (f a))
        → (a : ℕ) × (a < suc v) × T (d a) × T (f a)
    go true true e g s h = (v, omega arith, rw e tt, rw g tt)
    go true false e g s h = let r = h s in (r.0, omega (arith, r.1), r.2, r.3)
    go false y e g s h = let r = h s in (r.0, omega (arith, r.1), r.2, r.3)

pub some_in : (v : ℕ) (d f : ℕ → Bool) (a : ℕ) → a < v → T (d a) → T (f a) → T (some v d f)
unfolding some
some_in zero d f a h m t = absurd (omega arith)
some_in (suc v) d f a h m t =
    by_eq a v (λ e. left (d v) (f v) (some v d f) (rw e at m) (rw e at t)) (λ e. or_right (d v && f v) (some v d f) (some_in v d f a (omega arith) m t))
  where
    left : (x y z : Bool) → T x → T y → T (x && y || z)
    left true true z s t = tt
    left true false z s t = absurd t
    left false y z s t = absurd s

-- Domains that agree.
pub some-over : (v : ℕ) (d e f : ℕ → Bool) → ((k : ℕ) → k < v → d k ≡ e k) → some v d f ≡ some v e f
some-over v d e f q =
    same (some v d f) (some v e f) (λ t. let r = some_out v d f t in some_in v e f r.0 r.1 (rw (← (q r.0 r.1)) r.2) r.3)
    (λ t. let r = some_out v e f t in some_in v d f r.0 r.1 (rw (q r.0 r.1) r.2) r.3)

-- Domain and test as one.
pub some_joint : (v : ℕ) (d f : ℕ → Bool) → some v d f ≡ some v (λ k. d k && f k) (λ k. true)
some_joint v d f =
    same (some v d f) (some v (λ k. d k && f k) (λ k. true))
    (λ t. let r = some_out v d f t in some_in v (λ k. d k && f k) (λ k. true) r.0 r.1 (and_in (d r.0) (f r.0) r.2 r.3) tt)
    (λ t. let r = some_out v (λ k. d k && f k) (λ k. true) t in let q = and_out (d r.0) (f r.0) r.2 in some_in v d f r.0 r.1 q.0 q.1)

-- Nothing passes a test that always fails; a test in front of all.
pub some_never : (v : ℕ) (d : ℕ → Bool) → some v d (λ a. false) ≡ false
unfolding some
some_never zero d = refl
some_never (suc v) d = rw (some_never v d) (or-false (d v && false) ∙ and-false (d v))

pub some_front : (v : ℕ) (d f : ℕ → Bool) (b : Bool) → (b && some v d f) ≡ some v d (λ a. b && f a)
some_front v d f true = refl
some_front v d f false = sym (some_never v d)

-- Each passes where none fails.
pub each_none : (v : ℕ) (d f : ℕ → Bool) → each v d f ≡ not (some v d (λ b. not (f b)))
unfolding each some
each_none zero d f = refl
each_none (suc v) d f = go (d v) (f v) (each v d f) (some v d (λ b. not (f b))) (each_none v d f)
  where
    go : (x y e s : Bool) → e ≡ not s → ((not x || y) && e) ≡ not (x && not y || s)
    go true true e s h = h
    go true false e s h = refl
    go false y e s h = h

-- No more pass than there are.
pub count-bound : (n : ℕ) (p : ℕ → Bool) → count n p ≤ n
unfolding count
count-bound zero p = le_refl 0
count-bound (suc n) p = let r = count-bound n p in let q = one (p n) in omega arith
  where
    one : (b : Bool) → cond b 1 0 ≤ 1
    one true = omega arith
    one false = omega arith

-- Tests that agree below v pass as often; so does one that agrees below a and fails from a on.
pub count_same : (v : ℕ) (f g : ℕ → Bool) → ((a : ℕ) → a < v → f a ≡ g a) → count v f ≡ count v g
unfolding count
count_same zero f g e = refl
count_same (suc v) f g e = rw (e v (omega arith), count_same v f g (λ a l. e a (omega arith)))

pub count_cut : (v a : ℕ) (f g : ℕ → Bool) → a ≤ v → ((k : ℕ) → k < a → f k ≡ g k) → ((k : ℕ) → a ≤ k → f k ≡ false) → count v f ≡ count a g
unfolding count
count_cut zero a f g h e z = let x : a ≡ 0 = omega arith in rw x
count_cut (suc v) a f g h e z =
    by_eq a (suc v) (λ x. rw x (count_same (suc v) f g (λ k l. e k (omega arith))))
    (λ x. rw (z v (omega arith)) (let r = count_cut v a f g (omega arith) e z in omega arith))

-- Those below a, and those of the b numbers from a on.
pub count_split : (a b : ℕ) (p : ℕ → Bool) → count (a + b) p ≡ count a p + count b (λ k. p (a + k))
unfolding count
count_split a zero p = rw add-zero (omega arith)
count_split a (suc b) p = rw add-suc (let r = count_split a b p in omega arith)

-- None passes.
pub count_none : (v : ℕ) (p : ℕ → Bool) → ((k : ℕ) → k < v → p k ≡ false) → count v p ≡ 0
unfolding count
count_none zero p e = refl
count_none (suc v) p e = rw (e v (omega arith), count_none v p (λ k l. e k (omega arith)))

-- Without j, which passes, one fewer passes.
pub count_without :
    (v j : ℕ) (p q : ℕ → Bool) → j < v → p j ≡ true → ((k : ℕ) → k < v → q k ≡ (p k && not (eqb k j))) → count v p ≡ suc (count v q)
unfolding count
count_without zero j p q h e a = absurd (omega arith)
count_without (suc v) j p q h e a =
    by_eq j v (λ d.
    let x : p v ≡ true = ap p (sym d) ∙ e in
    let y : q v ≡ false = a v (omega arith) ∙ rw (x, eq-eqb v j (sym d)) in
    rw (x, y) (let r = count_same v p q (λ k l. kept d k l) in omega arith))
    (λ d. rw (a v (omega arith), ne_eqb v j (λ y. d (sym y)), and-true (p v)) (let r = count_without v j p q (omega arith) e (λ k l. a k (omega arith)) in omega arith))
  where
    kept : j ≡ v → (k : ℕ) → k < v → p k ≡ q k
    kept d k l = sym (a k (omega arith) ∙ rw (ne_eqb k j (omega arith)) (and-true (p k)))

-- `first` passes where any does, and none before it does.
pub first_has : (n : ℕ) (p : ℕ → Bool) (k : ℕ) → k < n → p k ≡ true → p (first n p) ≡ true
unfolding first
first_has zero p k h e = absurd (omega arith)
first_has (suc n) p zero h e = rw (e, e) refl
first_has (suc n) p (suc k) h e = go (p zero) refl (first_has n (λ (j : ℕ). p (suc j)) k (omega arith) e)
  where
    go : (b : Bool) → p zero ≡ b → p (suc (first n (λ (j : ℕ). p (suc j)))) ≡ true → p (cond b zero (suc (first n (λ (j : ℕ). p (suc j))))) ≡ true
    go true q r = q
    go false q r = r

pub first_least : (n : ℕ) (p : ℕ → Bool) (k : ℕ) → k < first n p → p k ≡ false
unfolding first
first_least zero p k h = absurd (omega arith)
first_least (suc n) p zero h = go (p zero) refl h
  where
    go : (b : Bool) → p zero ≡ b → zero < cond b zero (suc (first n (λ (j : ℕ). p (suc j)))) → p zero ≡ false
    go true q h = absurd (omega arith)
    go false q h = q
first_least (suc n) p (suc k) h = go (p zero) (first_least n (λ (j : ℕ). p (suc j)) k) h
  where
    go : (b : Bool) → (k < first n (λ (j : ℕ). p (suc j)) → p (suc k) ≡ false) → suc k < cond b zero (suc (first n (λ (j : ℕ). p (suc j)))) → p (suc k) ≡ false
    go true r h = absurd (omega arith)
    go false r h = r (omega arith)

-- Where `first` is below the bound it passes.
pub first_of : (n : ℕ) (p : ℕ → Bool) → first n p < n → T (p (first n p))
unfolding first
first_of zero p h = absurd (omega arith)
first_of (suc n) p h = go (p zero) refl h (first_of n (λ (j : ℕ). p (suc j)))
  where
    go : (b : Bool) → p zero ≡ b → cond b zero (suc (first n (λ (j : ℕ). p (suc j)))) < suc n
        → (first n (λ (j : ℕ). p (suc j)) < n → T (p (suc (first n (λ (j : ℕ). p (suc j)))))) → T (p (cond b zero (suc (first n (λ (j : ℕ). p (suc j))))))
    go true e l ih = rw e tt
    go false e l ih = ih (omega arith)

-- `first` is below the bound where any number passes.
pub first_below : (n : ℕ) (p : ℕ → Bool) (k : ℕ) → k < n → T (p k) → first n p < n
unfolding first
first_below zero p k h t = absurd (omega arith)
first_below (suc n) p zero h t = go (p zero) t
  where
    go : (b : Bool) → T b → cond b zero (suc (first n (λ (j : ℕ). p (suc j)))) < suc n
    go true t = omega arith
    go false t = absurd t
first_below (suc n) p (suc k) h t = go (p zero) (first_below n (λ (j : ℕ). p (suc j)) k (omega arith) t)
  where
    go : (b : Bool) → first n (λ (j : ℕ). p (suc j)) < n → cond b zero (suc (first n (λ (j : ℕ). p (suc j)))) < suc n
    go true l = omega arith
    go false l = omega arith

-- `first` of a test that some number below n passes is below n and passes.
pub first_in : (n : ℕ) (q : ℕ → Bool) (k : ℕ) → k < n → T (q k) → (first n q < n) × T (q (first n q))
first_in n q k h t = let l = first_below n q k h t in (l, first_of n q l)

-- `first` is no more than the bound, is the bound where no number passes, and is the number that passes where none before it does.
pub first_most : (n : ℕ) (p : ℕ → Bool) → first n p ≤ n
unfolding first
first_most zero p = le_refl 0
first_most (suc n) p = go (p zero) (first_most n (λ (j : ℕ). p (suc j)))
  where
    go : (b : Bool) → first n (λ (j : ℕ). p (suc j)) ≤ n → cond b zero (suc (first n (λ (j : ℕ). p (suc j)))) ≤ suc n
    go true l = omega arith
    go false l = omega arith

pub first_none : (n : ℕ) (p : ℕ → Bool) → ((k : ℕ) → k < n → p k ≡ false) → first n p ≡ n
first_none n p e = by_lt (first n p) n (λ l. absurd (clash (e (first n p) l) (first_of n p l))) (λ l. let m = first_most n p in omega arith)

pub first_is : (n : ℕ) (p : ℕ → Bool) (k : ℕ) → k < n → T (p k) → ((j : ℕ) → j < k → p j ≡ false) → first n p ≡ k
first_is n p k h t e =
    by_lt (first n p) k (λ l. absurd (clash (e (first n p) l) (first_of n p (omega arith))))
    λ l. by_lt k (first n p) (λ m. absurd (clash (first_least n p k m) t)) (λ m. omega arith)

-- Tests that agree below n have the same first.
pub first-agree : (n : ℕ) (p q : ℕ → Bool) → ((k : ℕ) → k < n → p k ≡ q k) → first n p ≡ first n q
unfolding first
first-agree zero p q e = refl
first-agree (suc n) p q e =
    ap₂ (λ (b : Bool) (k : ℕ). cond b zero (suc k)) (e 0 (omega arith)) (first-agree n (λ k. p (suc k)) (λ k. q (suc k)) (λ k h. e (suc k) (omega arith)))

-- Some number passes where the first is below the bound.
pub first_some : (n : ℕ) (d f : ℕ → Bool) → some n d f ≡ ltb (first n (λ k. d k && f k)) n
first_some n d f = by_lt (first n (λ k. d k && f k)) n
    (λ h. let t = and_out (d (first n (λ k. d k && f k))) (f (first n (λ k. d k && f k))) (first_of n (λ k. d k && f k) h) in
    holds (some_in n d f (first n (λ k. d k && f k)) h t.0 t.1) ∙ sym (lt-ltb (first n (λ k. d k && f k)) n h))
    (λ h. fails (λ t. let r = some_out n d f t in let l = first_below n (λ k. d k && f k) r.0 r.1 (and_in (d r.0) (f r.0) r.2 r.3) in omega arith)
    ∙ sym (le-ltb (first n (λ k. d k && f k)) n h))

-- One number more is tested, with outcome b.
pub first_more : (n : ℕ) (p q : ℕ → Bool) (j : ℕ) (b : Bool) → j < n → ((k : ℕ) → k < n → q k ≡ (p k || (eqb k j && b)))
    → cond (b && ltb j (first n p)) j (first n p) ≡ first n q
first_more n p q j false h e = first-agree n p q λ k l. sym (e k l ∙ ap (λ (c : Bool). p k || c) (and-false (eqb k j)) ∙ or-false (p k))
first_more n p q j true h e = by_lt j (first n p)
    (λ l. rw (lt-ltb j (first n p) l)
    (sym (first_is n q j h (rw (e j h, eq-eqb j j refl) (or_right (p j) true tt)) λ i r. e i (omega arith) ∙ rw (first_least n p i (omega arith), ne_eqb i j (omega arith)))))
    (λ l. rw (le-ltb j (first n p) l)
    (sym (first_is n q (first n p) (omega arith) (rw (e (first n p) (omega arith)) (or_left (p (first n p)) (eqb (first n p) j && true) (first_of n p (omega arith))))
    λ i r. e i (omega arith) ∙ rw (first_least n p i r, ne_eqb i j (omega arith)))))
