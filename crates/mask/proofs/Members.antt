-- The lowest member of a mask and the rest: what a loop over the members of a mask goes by, at every width.
use mathlib.Core.Path.{◌≡◌, refl, sym, ap, ◌∙◌, fun_ext, ap₂}
use mathlib.Core.Bool.{Bool, true, false, cond, not, ◌&&◌, ◌||◌, and-true, and-false, beq}
use Prim.Native.Nat.{ℕ, zero, suc, ◌+◌, ◌-◌, ◌/◌, ◌%◌, ◌^◌, ◌≤◌, ◌<◌}
use native.Mathlib.Nat.{pow-suc, lt_of_le_of_lt}
use native.Mathlib.Numerals.{add-one}
use native.Mathlib.Omega.{arith}
use lib.Dec.{T, eqb, ltb, eqb-suc-zero, eqb-suc-suc, eqb→eq}
use lib.Bits.{bit_and, and_le_r, bit_or, or_lt}
use lib.Pow.{pow_pos, pow_mono, pow-lt}
use borrow.Author.Tests.{ne_eqb, lt-ltb, le-ltb, eq-eqb}
use Rattle.mask.specs.Range.{some, each, count, first}
use Rattle.mask.specs.Mask.{bit, rest, above, mask_of}
use Rattle.mask.proofs.Logic.{same, fails, clash, true_holds, test, by_eq, by_lt, and_in, and_out, or_left, or_right, or_out, holds}
use Rattle.mask.proofs.Range.{some_out, some_in, each_out, each_in, count_cut, count_without, first_of, first_below, first_is, first_least, first_none, first-agree}
use Rattle.mask.proofs.Bits.{bit-bit_and, bit-diff, bit_zero, bit_suc, bit_none, bit_high, bit_of_zero, bit_single, bit_ext, bit-bit_or}
use Rattle.mask.proofs.Masks.{bit_not, diff_lt, mask_of_lt, bit-mask_of}

pub rest_lt : (m : ℕ) → ¬ (m ≡ 0) → rest m < m
unfolding rest
rest_lt m h = omega (arith, and_le_r m (m - 1), h)

first_bit : (w m : ℕ) → first (suc w) (bit m) ≡ cond (bit m 0) 0 (suc (first w (bit (m / 2))))
unfolding first
first_bit w m = ap (λ (f : ℕ → Bool). cond (bit m 0) 0 (suc (first w f))) (fun_ext (λ k. bit_suc m k))

odd_digit : (x : ℕ) → x < 2 → eqb x 1 ≡ true → x ≡ 1
odd_digit zero h e = let z : ◌≡◌ {A = Bool} false true = e in cc
odd_digit (suc zero) h e = refl
odd_digit (suc (suc x)) h e = absurd (omega arith)

even_digit : (x : ℕ) → x < 2 → eqb x 1 ≡ false → x ≡ 0
even_digit zero h e = refl
even_digit (suc zero) h e = let z : ◌≡◌ {A = Bool} true false = e in cc
even_digit (suc (suc x)) h e = absurd (omega arith)

-- The rest holds every member but the lowest.
pub bit-rest : (w m : ℕ) → m < 2 ^ w → ¬ (m ≡ 0) → (k : ℕ) → bit (rest m) k ≡ (bit m k && not (eqb k (first w (bit m))))
unfolding rest
bit-rest zero m h z k = absurd (z (omega arith))
bit-rest (suc w) m h z k = bit-bit_and m (m - 1) k ∙ rw (first_bit w m) (go (λ y l. bit-rest w (m / 2) l y) k (bit m 0) refl)
  where
    half : m / 2 < 2 ^ w
    half = let p = pow-suc 2 w in omega arith

    go : (¬ (m / 2 ≡ 0) → m / 2 < 2 ^ w → (k : ℕ) → bit (bit_and (m / 2) (m / 2 - 1)) k ≡ (bit (m / 2) k && not (eqb k (first w (bit (m / 2))))))
        → (k : ℕ) (b : Bool) → bit m 0 ≡ b → (bit m k && bit (m - 1) k) ≡ (bit m k && not (eqb k (cond b 0 (suc (first w (bit (m / 2)))))))
    go ih zero true e =
        let o : m % 2 ≡ 1 = odd_digit (m % 2) (omega arith) (sym (bit_zero m) ∙ e) in
        let l : (m - 1) % 2 ≡ 0 = omega arith in
        ap (λ (b : Bool). bit m 0 && b) (bit_zero (m - 1) ∙ ap (λ (x : ℕ). eqb x 1) l)
    go ih (suc k) true e =
        let o : m % 2 ≡ 1 = odd_digit (m % 2) (omega arith) (sym (bit_zero m) ∙ e) in
        let l : (m - 1) / 2 ≡ m / 2 = omega arith in
        rw (eqb-suc-zero k, bit_suc m k, bit_suc (m - 1) k, l) (twice (bit (m / 2) k))
      where
        twice : (b : Bool) → (b && b) ≡ (b && true)
        twice true = refl
        twice false = refl
    go ih zero false e = rw e
    go ih (suc k) false e =
        let o : m % 2 ≡ 0 = even_digit (m % 2) (omega arith) (sym (bit_zero m) ∙ e) in
        let l : (m - 1) / 2 ≡ m / 2 - 1 = omega arith in
        rw (bit_suc m k, bit_suc (m - 1) k, l, eqb-suc-suc k (first w (bit (m / 2))))
        (sym (bit-bit_and (m / 2) (m / 2 - 1) k) ∙ ih (λ y. z (omega arith)) half k)

-- The lowest member of a mask that is not empty is one of its members.
pub low_lt : (w m : ℕ) → m < 2 ^ w → ¬ (m ≡ 0) → first w (bit m) < w
low_lt w m h z =
    test (some w (bit m) (λ k. true))
    (λ t. let r = some_out w (bit m) (λ k. true) t in first_below w (bit m) r.0 r.1 r.2)
    (λ e. absurd (z (bit_none w m h (λ k l. fails (λ t. clash e (some_in w (bit m) (λ k. true) k l t tt))))))

pub low_in : (w m : ℕ) → m < 2 ^ w → ¬ (m ≡ 0) → T (bit m (first w (bit m)))
low_in w m h z = first_of w (bit m) (low_lt w m h z)

-- The rest has one member fewer.
pub count-rest : (w m : ℕ) → m < 2 ^ w → ¬ (m ≡ 0) → count w (bit m) ≡ suc (count w (bit (rest m)))
count-rest w m h z =
    count_without w (first w (bit m)) (bit m) (bit (rest m)) (low_lt w m h z) (holds (low_in w m h z)) (λ k l. bit-rest w m h z k)

-- A test of some, and of each, member: the lowest, and the rest.
module _ (w m : ℕ) (h : m < 2 ^ w) (z : ¬ (m ≡ 0)) (f : ℕ → Bool) where
  pub some-rest : some w (bit m) f ≡ (f (first w (bit m)) || some w (bit (rest m)) f)
  some-rest =
      same (some w (bit m) f) (f (first w (bit m)) || some w (bit (rest m)) f)
      (λ t. let r = some_out w (bit m) f t in
      by_eq r.0 (first w (bit m))
      (λ e. or_left (f (first w (bit m))) (some w (bit (rest m)) f) (rw e at r.3))
      (λ e. or_right (f (first w (bit m))) (some w (bit (rest m)) f)
      (some_in w (bit (rest m)) f r.0 r.1 (rw (bit-rest w m h z r.0, ne_eqb r.0 (first w (bit m)) e) (and_in (bit m r.0) true r.2 tt)) r.3)))
      (λ t. or_out (f (first w (bit m))) (some w (bit (rest m)) f) t
      (λ s. some_in w (bit m) f (first w (bit m)) (low_lt w m h z) (low_in w m h z) s)
      (λ s. let r = some_out w (bit (rest m)) f s in
      some_in w (bit m) f r.0 r.1 (and_out (bit m r.0) (not (eqb r.0 (first w (bit m)))) (rw (bit-rest w m h z r.0) at r.2)).0 r.3))

  pub each-rest : each w (bit m) f ≡ (f (first w (bit m)) && each w (bit (rest m)) f)
  each-rest =
      same (each w (bit m) f) (f (first w (bit m)) && each w (bit (rest m)) f)
      (λ t. and_in (f (first w (bit m))) (each w (bit (rest m)) f)
      (each_out w (bit m) f t (first w (bit m)) (low_lt w m h z) (low_in w m h z))
      (each_in w (bit (rest m)) f (λ k l b. each_out w (bit m) f t k l (and_out (bit m k) (not (eqb k (first w (bit m)))) (rw (bit-rest w m h z k) at b)).0)))
      (λ t. let r = and_out (f (first w (bit m))) (each w (bit (rest m)) f) t in
      each_in w (bit m) f (λ k l b.
      by_eq k (first w (bit m)) (λ e. rw e r.0)
      (λ e. each_out w (bit (rest m)) f r.1 k l (rw (bit-rest w m h z k, ne_eqb k (first w (bit m)) e) (and_in (bit m k) true b tt)))))

-- The numbers up to k as a mask: 2 ^ k and all below it.
pub ones_to : (k : ℕ) → 2 ^ k + (2 ^ k - 1) ≡ 2 ^ (k + 1) - 1
ones_to k = let p = pow_pos k in rw (add-one, pow-suc) (omega arith)

-- The mask of all numbers below n.
pub bit-ones : (n k : ℕ) → bit (2 ^ n - 1) k ≡ ltb k n
bit-ones n k =
    by_lt k n
    (λ l. let e : 2 ^ n - 1 ≡ 2 ^ n - 1 - 0 = omega arith in ap (λ (x : ℕ). bit x k) e ∙ bit_not n 0 k (pow_pos n) l ∙ ap not (bit_of_zero k) ∙ sym (lt-ltb k n l))
    (λ l. bit_high n (2 ^ n - 1) k (let p = pow_pos n in omega arith) l ∙ sym (le-ltb k n l))

pub ones_lt : (w n : ℕ) → n ≤ w → 2 ^ n - 1 < 2 ^ w
ones_lt w n h = let p = pow_pos n in let q = pow_mono {i = n} {j = w} h in omega arith

-- The one member of a mask of one value.
pub some_single : (w v : ℕ) (f : ℕ → Bool) → v < w → some w (bit (2 ^ v)) f ≡ f v
some_single w v f h =
    same (some w (bit (2 ^ v)) f) (f v)
    (λ t. let r = some_out w (bit (2 ^ v)) f t in rw (eqb→eq r.0 v (rw (bit_single v r.0) at r.2)) at r.3)
    (λ t. some_in w (bit (2 ^ v)) f v h (true_holds (bit_single v v ∙ eq-eqb v v refl)) t)

-- The values below a: some of them passes where one of the mask's members below a does.
pub some_below : (n a m : ℕ) (f : ℕ → Bool) → a ≤ n → some n (bit (bit_and m (2 ^ a - 1))) f ≡ some a (bit m) f
some_below n a m f h =
    same (some n (bit (bit_and m (2 ^ a - 1))) f) (some a (bit m) f)
    (λ t. let r = some_out n (bit (bit_and m (2 ^ a - 1))) f t in
    let b = and_out (bit m r.0) (bit (2 ^ a - 1) r.0) (rw (bit-bit_and m (2 ^ a - 1) r.0) at r.2) in
    by_lt r.0 a (λ l. some_in a (bit m) f r.0 l b.0 r.3)
    (λ l. absurd (clash (bit-ones a r.0 ∙ le-ltb r.0 a l) b.1)))
    (λ t. let r = some_out a (bit m) f t in
    some_in n (bit (bit_and m (2 ^ a - 1))) f r.0 (omega (arith, r.1))
    (rw (bit-bit_and m (2 ^ a - 1) r.0) (and_in (bit m r.0) (bit (2 ^ a - 1) r.0) r.2 (true_holds (bit-ones a r.0 ∙ lt-ltb r.0 a r.1)))) r.3)

-- How many members of a mask are below a.
pub count-below : (n a m : ℕ) → a ≤ n → count n (bit (bit_and m (2 ^ a - 1))) ≡ count a (bit m)
count-below n a m h =
    count_cut n a (bit (bit_and m (2 ^ a - 1))) (bit m) h (λ k l. met k ∙ ap (λ (b : Bool). bit m k && b) (lt-ltb k a l) ∙ and-true (bit m k))
    (λ k l. met k ∙ ap (λ (b : Bool). bit m k && b) (le-ltb k a l) ∙ and-false (bit m k))
  where
    met : (k : ℕ) → bit (bit_and m (2 ^ a - 1)) k ≡ (bit m k && ltb k a)
    met k = bit-bit_and m (2 ^ a - 1) k ∙ ap (λ (b : Bool). bit m k && b) (bit-ones a k)

-- What is above k of a mask: those of its members, within its places.
pub bit-above : (m k j : ℕ) → bit (above m k) j ≡ (bit m j && ltb k j)
unfolding above
bit-above m k j = bit-diff m (2 ^ (k + 1) - 1) j ∙ ap (λ (b : Bool). bit m j && not b) (bit-ones (k + 1) j) ∙ ap (λ (b : Bool). bit m j && b) (turned k j)
  where
    turned : (k j : ℕ) → not (ltb j (k + 1)) ≡ ltb k j
    turned k j = by_lt k j (λ l. rw (lt-ltb k j l, le-ltb j (k + 1) (omega arith))) (λ l. rw (le-ltb k j l, lt-ltb j (k + 1) (omega arith)))

pub above_lt : (w m k : ℕ) → m < 2 ^ w → above m k < 2 ^ w
unfolding above
above_lt w m k h = diff_lt w m (2 ^ (k + 1) - 1) h

-- The first member below v that passes a test: the lowest where it does, else the first of the rest.
module _ (v w m : ℕ) (h : m < 2 ^ w) (z : ¬ (m ≡ 0)) (f : ℕ → Bool) where
  pub first_found : first w (bit m) < v → T (f (first w (bit m))) → first v (λ k. bit m k && f k) ≡ first w (bit m)
  first_found l t =
      first_is v (λ k. bit m k && f k) (first w (bit m)) l (and_in (bit m (first w (bit m))) (f (first w (bit m))) (low_in w m h z) t)
      (λ j r. ap (λ (b : Bool). b && f j) (first_least w (bit m) j r))

  pub first_on : f (first w (bit m)) ≡ false → first v (λ k. bit m k && f k) ≡ first v (λ k. bit (rest m) k && f k)
  first_on e = first-agree v (λ k. bit m k && f k) (λ k. bit (rest m) k && f k) λ k _. by_eq k (first w (bit m))
      (λ d. rw (d, e, and-false (bit m (first w (bit m))), and-false (bit (rest m) (first w (bit m)))))
      (λ d. rw (bit-rest w m h z k, ne_eqb k (first w (bit m)) d, and-true (bit m k)))

-- An empty mask has no member that passes.
pub first-empty : (w m : ℕ) (f : ℕ → Bool) → m ≡ 0 → first w (λ k. bit m k && f k) ≡ w
first-empty w m f e = first_none w (λ k. bit m k && f k) λ k l. rw (e, bit_of_zero k)

-- The members of m that pass g: the lowest, if it passes, and those of the rest.
pub passing_rest :
    (n m : ℕ) (g : ℕ → Bool) → m < 2 ^ n → ¬ (m ≡ 0)
    → mask_of n (λ a. bit m a && g a) ≡ bit_or (cond (g (first n (bit m))) (2 ^ first n (bit m)) 0) (mask_of n (λ a. bit (rest m) a && g a))
passing_rest n m g h z =
    bit_ext n (mask_of n (λ a. bit m a && g a)) (bit_or one rested) (mask_of_lt n _) (or_lt n one rested (one_lt (g low)) (mask_of_lt n _)) λ k l.
    bit-mask_of n (λ a. bit m a && g a) k l
    ∙ sym (bit-bit_or one rested k ∙ ap₂ ◌||◌ (bit-one (g low) k) (bit-mask_of n (λ a. bit (rest m) a && g a) k l ∙ ap (λ b. b && g k) (bit-rest n m h z k)) ∙ parts k)
  where
    low : ℕ
    low = first n (bit m)

    one : ℕ
    one = cond (g low) (2 ^ low) 0

    rested : ℕ
    rested = mask_of n (λ a. bit (rest m) a && g a)

    one_lt : (b : Bool) → cond b (2 ^ low) 0 < 2 ^ n
    one_lt true = pow-lt (low_lt n m h z)
    one_lt false = pow_pos n

    bit-one : (b : Bool) (k : ℕ) → bit (cond b (2 ^ low) 0) k ≡ (b && eqb k low)
    bit-one true k = bit_single low k
    bit-one false k = bit_of_zero k

    parts : (k : ℕ) → (g low && eqb k low || (bit m k && not (eqb k low)) && g k) ≡ (bit m k && g k)
    parts k =
        by_eq k low
        (λ e. rw (e, eq-eqb low low refl, holds {b = bit m low} (low_in n m h z)) (at (g low)))
        (λ e. rw (ne_eqb k low e) (away (g low) (bit m k) (g k)))
      where
        at : (b : Bool) → (b && true || false) ≡ b
        at true = refl
        at false = refl

        away : (b c d : Bool) → (b && false || (c && true) && d) ≡ (c && d)
        away true true d = refl
        away true false d = refl
        away false true d = refl
        away false false d = refl

-- Two masks meet m in the same values.
pub same_within : (n r s m : ℕ) → m < 2 ^ n → eqb (bit_and r m) (bit_and s m) ≡ each n (bit m) (λ c. beq (bit r c) (bit s c))
same_within n r s m h =
    same (eqb (bit_and r m) (bit_and s m)) (each n (bit m) (λ c. beq (bit r c) (bit s c)))
    (λ t. each_in n (bit m) (λ c. beq (bit r c) (bit s c)) λ c l b.
    met (bit r c) (bit s c) (bit m c) b (sym (bit-bit_and r m c) ∙ ap (λ (y : ℕ). bit y c) (eqb→eq (bit_and r m) (bit_and s m) t) ∙ bit-bit_and s m c))
    (λ t. true_holds (eq-eqb (bit_and r m) (bit_and s m)
    (bit_ext n (bit_and r m) (bit_and s m) (lt_of_le_of_lt (and_le_r r m) h) (lt_of_le_of_lt (and_le_r s m) h) λ c l.
    bit-bit_and r m c ∙ meets (bit r c) (bit s c) (bit m c) (each_out n (bit m) (λ c. beq (bit r c) (bit s c)) t c l) ∙ sym (bit-bit_and s m c))))
  where
    met : (a b c : Bool) → T c → (a && c) ≡ (b && c) → T (beq a b)
    met true true true t e = tt
    met true false true t e = true_holds (sym e)
    met false true true t e = true_holds e
    met false false true t e = tt
    met a b false t e = absurd t

    meets : (a b c : Bool) → (T c → T (beq a b)) → (a && c) ≡ (b && c)
    meets true true c f = refl
    meets true false true f = absurd (f tt)
    meets true false false f = refl
    meets false true true f = absurd (f tt)
    meets false true false f = refl
    meets false false c f = refl

-- Loops over the members of m that leave early: where k is the lowest member, what it says decides, or the rest does.
module _ (n m : ℕ) (h : m < 2 ^ n) (z : ¬ (m ≡ 0)) (f : ℕ → Bool) (all : Bool) (k : ℕ) (low : k ≡ first n (bit m)) where
  lowest_test : f k ≡ f (first n (bit m))
  lowest_test = ap f low

  pub each_next : (v : ℕ) → f k ≡ true → v ≡ rest m → all ≡ each n (bit m) f → all ≡ each n (bit v) f
  each_next v t r e = e ∙ each-rest n m h z f ∙ ap₂ (λ b y. b && each n (bit y) f) (sym lowest_test ∙ t) (sym r)

  pub each-stop : f k ≡ false → all ≡ each n (bit m) f → false ≡ all
  each-stop t e = sym (e ∙ each-rest n m h z f ∙ ap (λ b. b && each n (bit (rest m)) f) (sym lowest_test ∙ t))

  pub some_next : (v : ℕ) → f k ≡ false → v ≡ rest m → all ≡ some n (bit m) f → all ≡ some n (bit v) f
  some_next v t r e = e ∙ some-rest n m h z f ∙ ap₂ (λ b y. b || some n (bit y) f) (sym lowest_test ∙ t) (sym r)

  pub some-stop : f k ≡ true → all ≡ some n (bit m) f → true ≡ all
  some-stop t e = sym (e ∙ some-rest n m h z f ∙ ap (λ b. b || some n (bit (rest m)) f) (sym lowest_test ∙ t))

-- No member is left.
module _ (n m : ℕ) (z : m ≡ 0) (f : ℕ → Bool) (all : Bool) where
  no_member : (k : ℕ) → T (bit m k) → ⊥
  no_member k = clash (ap (λ (y : ℕ). bit y k) z ∙ bit_of_zero k)

  pub each_end : all ≡ each n (bit m) f → true ≡ all
  each_end e = sym (e ∙ holds (each_in n (bit m) f λ k l b. absurd (no_member k b)))

  pub some_end : all ≡ some n (bit m) f → false ≡ all
  some_end e = sym (e ∙ fails λ t. let r = some_out n (bit m) f t in no_member r.0 r.2)
