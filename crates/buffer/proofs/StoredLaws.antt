-- Runs of stores, and lists that stand one behind another.
use Prim.Native.Nat.{ℕ, zero, suc, ◌+◌, ◌*◌, ◌≤◌, ◌<◌}
use mathlib.Core.Path.{◌≡◌, refl, sym, ap, ap₂, ◌∙◌}
use mathlib.Core.Bool.{Bool, true, false, not, ◌&&◌, and-true, and-false}
use mathlib.Core.List.{List, [], ◌∷◌, ◌++◌, append-nil, append_assoc}
use lib.ListN.{length, get_or, set, drop, length-append, get_or-append}
use lib.Seq.{sets, length-sets, sets-eq, get_or-append-add}
use native.Mathlib.Nat.{zero-add, add-zero, add-suc, suc-add, mul-zero, mul-suc}
use native.Mathlib.Omega.{arith}
use lib.Dec.{eqb}
use borrow.Author.Tests.{eq-eqb, ne_eqb}
use Rattle.mask.specs.Mask.{bit}
use Rattle.mask.specs.Upward.{Took}
use Rattle.mask.proofs.Logic.{holds, by_eq}
use Rattle.mask.proofs.Bits.{bit_of_zero}
use Rattle.mask.proofs.Chains.{took_lt, took_in, none_below, bit-left}
use Rattle.buffer.specs.Stored.{stored, joined}

-- Two runs of stores, one behind the other, are one.
sets_append : (xs ys l : List ℕ) (i : ℕ) → sets (sets l i xs) (i + length xs) ys ≡ sets l i (xs ++ ys)
sets_append [] ys l i = rw add-zero
sets_append (x ∷ xs) ys l i = rw (add-suc, ← suc-add) (sets_append xs ys (set l i x) (suc i))

-- Where xs are stored from i on and ys behind them, their append is stored.
pub stored_more : (xs ys l : List ℕ) (i d : ℕ) → length xs ≡ d → stored (stored l i xs) (i + d) ys ≡ stored l i (xs ++ ys)
unfolding stored
stored_more xs ys l i d e = rw (← e) (sets_append xs ys l i)

-- The same from the start.
pub stored_behind : (xs ys l : List ℕ) (d : ℕ) → length xs ≡ d → stored (stored l 0 xs) d ys ≡ stored l 0 (xs ++ ys)
stored_behind xs ys l d e = ap (λ (i : ℕ). stored (stored l 0 xs) i ys) (sym (zero-add d)) ∙ stored_more xs ys l 0 d e

-- Stores keep a list's length.
pub length-stored : (l : List ℕ) (i : ℕ) (vs : List ℕ) → length (stored l i vs) ≡ length l
unfolding stored
length-stored l i vs = length-sets l i vs

-- Stored at the start: the bytes, and behind them what was there.
pub stored-start : (xs l : List ℕ) → length xs ≤ length l → stored l 0 xs ≡ xs ++ drop (length xs) l
unfolding stored
stored-start xs l h = simp zero-add at (sets-eq xs l 0 (rw zero-add h))

-- The lists g 0, g 1 .. below k stand one behind another from p on, list i at the place `at i`.
pub record InRow (g : ℕ → List ℕ) (p : ℕ) (at : ℕ → ℕ) (k : ℕ) : Type 0 where
  pub first : at 0 ≡ p
  pub next : (i : ℕ) → i < k → at (suc i) ≡ at i + length (g i)

pub row_front : (g : ℕ → List ℕ) (p : ℕ) (at : ℕ → ℕ) (k : ℕ) → InRow g p at (suc k) → InRow g p at k
row_front g p at k r = record { first = r.first; next = λ i h. r.next i (omega arith) }

-- Lists of one length w.
pub row_of_width : (g : ℕ → List ℕ) (w : ℕ) → ((i : ℕ) → length (g i) ≡ w) → (p k : ℕ) → InRow g p (λ i. p + w * i) k
row_of_width g w e p k = record { first = omega (arith, mul-zero w); next = λ i h. omega (arith, e i, mul-suc w i) }

-- Lists in a row end where the next one begins.
pub length-joined : (g : ℕ → List ℕ) (p : ℕ) (at : ℕ → ℕ) (k : ℕ) → InRow g p at k → p + length (joined g k) ≡ at k
unfolding joined
length-joined g p at zero r = omega (arith, r.first)
length-joined g p at (suc k) r =
    omega (arith, length-append (joined g k) (g k), length-joined g p at k (row_front g p at k r), r.next k (omega arith))

-- One more list stored behind those before it.
pub joined-stored : (g : ℕ → List ℕ) (p : ℕ) (at : ℕ → ℕ) (k : ℕ) → InRow g p at k → (l : List ℕ) →
    stored (stored l p (joined g k)) (at k) (g k) ≡ stored l p (joined g (suc k))
unfolding joined
joined-stored g p at k r l =
    ap (λ (q : ℕ). stored (stored l p (joined g k)) q (g k)) (sym (length-joined g p at k r)) ∙ stored_more (joined g k) (g k) l p _ refl

-- ---- lists that are joined

-- The same lists.
pub joined_same : {A : Type 0} (f g : ℕ → List A) (k : ℕ) → ((i : ℕ) → i < k → f i ≡ g i) → joined f k ≡ joined g k
unfolding joined
joined_same f g zero h = refl
joined_same f g (suc k) h = ap₂ (λ xs ys. xs ++ ys) (joined_same f g k (λ i l. h i (omega arith))) (h k (omega arith))

-- Nothing, where each is empty.
pub joined_none : {A : Type 0} (g : ℕ → List A) (k : ℕ) → ((i : ℕ) → i < k → g i ≡ []) → joined g k ≡ []
unfolding joined
joined_none g zero h = refl
joined_none g (suc k) h = rw (h k (omega arith), joined_none g k (λ i l. h i (omega arith)))

-- One from each.
pub one_each : {A : Type 0} (g : ℕ → A) (k : ℕ) → length (joined (λ i. g i ∷ []) k) ≡ k
unfolding joined
one_each g zero = refl
one_each g (suc k) = let r = one_each g k in omega (arith, length-append (joined (λ i. g i ∷ []) k) (g k ∷ []))

-- That of a stands at place a.
pub one_at : (g : ℕ → ℕ) (k a : ℕ) → a < k → get_or (joined (λ i. g i ∷ []) k) a 0 ≡ g a
unfolding joined
one_at g zero a h = absurd (omega arith)
one_at g (suc k) a h =
    let l = one_each g k in
    by_eq a k
    (λ e. let z : a ≡ length (joined (λ i. g i ∷ []) k) + 0 = omega arith in
    ap (λ i. get_or (joined (λ i. g i ∷ []) k ++ (g k ∷ [])) i 0) z ∙ get_or-append-add (joined (λ i. g i ∷ []) k) (g k ∷ []) 0 0 ∙ ap g (sym e))
    (λ e. get_or-append (joined (λ i. g i ∷ []) k) (g k ∷ []) 0 a (omega arith) ∙ one_at g k a (omega arith))

-- The first j, then the others.
pub joined_split : {A : Type 0} (g : ℕ → List A) (j k : ℕ) → joined g (j + k) ≡ joined g j ++ joined (λ i. g (j + i)) k
unfolding joined
joined_split g j zero = rw add-zero (sym (append-nil (joined g j)))
joined_split g j (suc k) = rw add-suc (ap (λ xs. xs ++ g (j + k)) (joined_split g j k) ∙ append_assoc (joined g j) (joined (λ i. g (j + i)) k) (g (j + k)))

-- The k + 1 from i on: the first, then those from i + 1 on.
pub joined-from : {A : Type 0} (g : ℕ → List A) (i k : ℕ) → joined (λ t. g (i + t)) (suc k) ≡ g i ++ joined (λ t. g (suc i + t)) k
unfolding joined
joined-from g i zero = rw add-zero (sym (append-nil (g i)))
joined-from g i (suc k) =
    let e : i + suc k ≡ suc i + k = omega arith in
    rw e (ap (λ xs. xs ++ g (suc i + k)) (joined-from g i k) ∙ append_assoc (g i) (joined (λ t. g (suc i + t)) k) (g (suc i + k)))

-- Where nothing stands before list j, and h has the others: that list, then those of h.
joined-lowest : {A : Type 0} (g h : ℕ → List A) (j k : ℕ) → j < k → ((i : ℕ) → i < j → g i ≡ []) → ((i : ℕ) → i < suc j → h i ≡ []) → ((i : ℕ) → j < i → h i ≡ g i)
    → joined g k ≡ g j ++ joined h k
unfolding joined
joined-lowest g h j zero l f e s = absurd (omega arith)
joined-lowest g h j (suc k) l f e s =
    by_eq j k
    (λ z.
    let f' : joined g k ≡ [] = joined_none g k (λ i b. f i (omega arith)) in
    let e' : joined h k ≡ [] = joined_none h k (λ i b. e i (omega arith)) in
    let y : h k ≡ [] = e k (omega arith) in
    rw (f', e', y, z) (sym (append-nil (g k))))
    (λ z. ap (λ xs. xs ++ g k) (joined-lowest g h j k (omega arith) f e s) ∙ append_assoc (g j) (joined h k) (g k) ∙ ap (λ xs. g j ++ (joined h k ++ xs)) (sym (s k (omega arith))))

-- ---- lists of the members of a mask: g a b is the list of a where b is true, and empty where it is false

module _ {A : Type 0} {w m j v : ℕ} (k : Took w m j v) (g : ℕ → Bool → List A) (empty : (a : ℕ) → g a false ≡ []) where
  -- That of the lowest, then those of the rest.
  pub joined_members : joined (λ a. g a (bit m a)) w ≡ g j true ++ joined (λ a. g a (bit v a)) w
  joined_members =
      joined-lowest (λ a. g a (bit m a)) (λ a. g a (bit v a)) j w (took_lt k)
      (λ a l. ap (g a) (none_below k a l) ∙ empty a)
      (λ a l. ap (g a) (gone a l) ∙ empty a)
      (λ a l. ap (g a) (stays a (λ z. absurd (omega arith))))
      ∙ ap (λ b. g j b ++ joined (λ a. g a (bit v a)) w) (holds (took_in k))
    where
      gone : (a : ℕ) → a < suc j → bit v a ≡ false
      gone a l =
          bit-left k a
          ∙ by_eq a j (λ z. rw (eq-eqb a j z) (and-false (bit m a))) (λ z. ap (λ b. b && not (eqb a j)) (none_below k a (omega arith)))

      stays : (a : ℕ) → ¬ (a ≡ j) → bit v a ≡ bit m a
      stays a z = bit-left k a ∙ rw (ne_eqb a j z) (and-true (bit m a))

-- No member.
pub joined_empty : {A : Type 0} (w : ℕ) {m : ℕ} (g : ℕ → Bool → List A) → ((a : ℕ) → g a false ≡ []) → m ≡ 0 → joined (λ a. g a (bit m a)) w ≡ []
joined_empty w {m} g empty z = joined_none (λ a. g a (bit m a)) w (λ a l. ap (λ x. g a (bit x a)) z ∙ ap (g a) (bit_of_zero a) ∙ empty a)
