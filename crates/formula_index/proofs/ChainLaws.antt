-- Clauses read one after another: their places, and the chains of those with one last boolean.
use Prim.Native.Nat.{ℕ, zero, suc, ◌+◌, ◌*◌, ◌%◌, ◌≤◌, ◌<◌}
use mathlib.Core.Path.{◌≡◌, refl, sym, ap, ◌∙◌}
use mathlib.Core.List.{List, [], ◌∷◌, ◌++◌}
use borrow.Author.Tests.{eq-eqb, ne_eqb}
use lib.ListN.{length, get_or, set, replicate, length-set, length-replicate, get_or-replicate, get_or-eq_default}
use lib.Seq.{get_or-set_same, get_or-set_other}
use native.Mathlib.Numerals.{add-one}
use native.Mathlib.Omega.{arith}
use Rattle.formula.specs.Text.{literals_at, end_at, clauses_at}
use Rattle.buffer.specs.Stored.{joined}
use Rattle.mask.proofs.Logic.{by_eq, by_lt}
use Rattle.mask.proofs.Words.{set_most}
use Rattle.formula_index.specs.Chains.{last_from, place_of, last_of, start_to, next_to, head_to, before}

-- The first k clauses are read: q is the place behind them, and these are the arrays.
pub record Chained (t : List ℕ) (most p : ℕ) (start₀ next₀ head₀ start next head : List ℕ) (q k : ℕ) : Type 0 where
  pub near : q ≤ p + 5643 * k
  pub place : q ≡ place_of t most p k
  pub starts : start ≡ start_to t most p start₀ k
  pub nexts : next ≡ next_to t most p next₀ head₀ k
  pub heads : head ≡ head_to t most p head₀ k

module _ {t : List ℕ} {most p : ℕ} {start₀ next₀ head₀ : List ℕ} where
  pub chained_none : Chained t most p start₀ next₀ head₀ start₀ next₀ head₀ p 0
  unfolding place_of start_to next_to head_to
  chained_none = record { near = omega arith; place = refl; starts = refl; nexts = refl; heads = refl }

  pub chained_more : {start next head : List ℕ} {q k last after : ℕ} → Chained t most p start₀ next₀ head₀ start next head q k → most ≤ 513
      → (last ≡ last_from 0 (literals_at t most q)) × (after ≡ end_at t most q) → after ≤ q + 11 * most
      → Chained t most p start₀ next₀ head₀ (set start k q) (set next k (get_or head (last % 513) 0)) (set head (last % 513) (k + 1)) after (k + 1)
  unfolding place_of last_of start_to next_to head_to
  chained_more {q} r h e l =
      let n = r.near in record {
        near = omega arith;
        place = rw (add-one, e.1, r.place);
        starts = rw (add-one, r.starts, r.place);
        nexts = rw (add-one, e.0, r.nexts, r.heads, r.place);
        heads = rw (add-one, e.0, r.heads, r.place);
      }

-- ---- the clauses as a list

place_on : (t : List ℕ) (most p k : ℕ) → place_of t most (end_at t most p) k ≡ place_of t most p (suc k)
unfolding place_of
place_on t most p zero = refl
place_on t most p (suc k) = ap (end_at t most) (place_on t most p k)

clauses_last : (t : List ℕ) (most p c : ℕ) → clauses_at t most (suc c) p ≡ clauses_at t most c p ++ (literals_at t most (place_of t most p c) ∷ [])
unfolding clauses_at place_of
clauses_last t most p zero = refl
clauses_last t most p (suc c) = ap (◌∷◌ (literals_at t most p)) (clauses_last t most (end_at t most p) c ∙ rw place_on)

pub clauses_listed : (t : List ℕ) (most p c : ℕ) → clauses_at t most c p ≡ joined (λ k. literals_at t most (place_of t most p k) ∷ []) c
unfolding clauses_at joined
clauses_listed t most p zero = refl
clauses_listed t most p (suc c) = rw (clauses_last, clauses_listed t most p c)

-- ---- what the arrays hold

zeros : (n v : ℕ) → get_or {A = ℕ} (replicate n 0) v 0 ≡ 0
zeros n v = by_lt v n (get_or-replicate n v 0 0) (λ h. get_or-eq_default (replicate n 0) 0 (rw length-replicate h))

module _ (t : List ℕ) (most p : ℕ) where
  pub last_small : (k : ℕ) → last_of t most p k < 513
  unfolding last_of
  last_small k = omega arith

  start-length : (l : List ℕ) (c : ℕ) → length (start_to t most p l c) ≡ length l
  unfolding start_to
  start-length l zero = refl
  start-length l (suc c) = rw length-set (start-length l c)

  head_length : (l : List ℕ) (c : ℕ) → length (head_to t most p l c) ≡ length l
  unfolding head_to
  head_length l zero = refl
  head_length l (suc c) = rw length-set (head_length l c)

  next-length : (l h : List ℕ) (c : ℕ) → length (next_to t most p l h c) ≡ length l
  unfolding next_to
  next-length l h zero = refl
  next-length l h (suc c) = rw length-set (next-length l h c)

  start_in : (l : List ℕ) (c k : ℕ) → k < c → c ≤ length l → get_or (start_to t most p l c) k 0 ≡ place_of t most p k
  unfolding start_to
  start_in l zero k h m = absurd (omega arith)
  start_in l (suc c) k h m =
      by_eq k c (λ e. rw e (get_or-set_same (start_to t most p l c) c _ 0 (omega (arith, start-length l c))))
      (λ n. get_or-set_other (start_to t most p l c) c k _ 0 n ∙ start_in l c k (omega arith) (omega arith))

  -- An array of 513 zeros, as the heads begin.
  module _ (h : List ℕ) (n : length h ≡ 513) (z : (v : ℕ) → v < 513 → get_or h v 0 ≡ 0) where
    head_in_lem : (c v : ℕ) → v < 513 → get_or (head_to t most p h c) v 0 ≡ before (last_of t most p) c v
    unfolding head_to before
    head_in_lem zero v m = z v m
    head_in_lem (suc c) v m =
        by_eq v (last_of t most p c)
        (λ e. rw (e, eq-eqb (last_of t most p c) (last_of t most p c) refl) (get_or-set_same (head_to t most p h c) _ _ 0 (omega (arith, head_length h c))))
        (λ d. get_or-set_other (head_to t most p h c) _ v _ 0 d ∙ (rw (ne_eqb (last_of t most p c) v (λ e. d (sym e))) (head_in_lem c v m)))

    next_in : (l : List ℕ) (c k : ℕ) → k < c → c ≤ length l → get_or (next_to t most p l h c) k 0 ≡ before (last_of t most p) k (last_of t most p k)
    unfolding next_to
    next_in l zero k r m = absurd (omega arith)
    next_in l (suc c) k r m =
        by_eq k c
        (λ e. rw e (get_or-set_same (next_to t most p l h c) c _ 0 (omega (arith, next-length l h c)) ∙ head_in_lem c (last_of t most p c) (last_small c)))
        (λ d. get_or-set_other (next_to t most p l h c) c k _ 0 d ∙ next_in l c k (omega arith) (omega arith))

  -- From arrays of zeros; n for their lengths, which are not to be computed.
  start_zeros : (n c k : ℕ) → k < c → c ≤ n → get_or (start_to t most p (replicate n 0) c) k 0 ≡ place_of t most p k
  start_zeros n c k h m = start_in (replicate n 0) c k h (rw length-replicate m)

  head_zeros : (n c v : ℕ) → n ≡ 513 → v < n → get_or (head_to t most p (replicate n 0) c) v 0 ≡ before (last_of t most p) c v
  head_zeros n c v e h = head_in_lem (replicate n 0) (length-replicate n _ ∙ e) (λ v m. get_or-replicate n v 0 0 (omega arith)) c v (omega arith)

  next_zeros : (n j c k : ℕ) → j ≡ 513 → k < c → c ≤ n
      → get_or (next_to t most p (replicate n 0) (replicate j 0) c) k 0 ≡ before (last_of t most p) k (last_of t most p k)
  next_zeros n j c k e h m =
      next_in (replicate j 0) (length-replicate j _ ∙ e) (λ v m. get_or-replicate j v 0 0 (omega arith)) (replicate n 0) c k h (rw length-replicate m)

  pub start-place : (c k : ℕ) → k < c → c ≤ 127008 → get_or (start_to t most p (replicate 127008 0) c) k 0 ≡ place_of t most p k
  start-place = start_zeros 127008

  pub head_before : (c v : ℕ) → v < 513 → get_or (head_to t most p (replicate 513 0) c) v 0 ≡ before (last_of t most p) c v
  head_before c v = head_zeros 513 c v refl

  pub next-before : (c k : ℕ) → k < c → c ≤ 127008
      → get_or (next_to t most p (replicate 127008 0) (replicate 513 0) c) k 0 ≡ before (last_of t most p) k (last_of t most p k)
  next-before c k = next_zeros 127008 513 c k refl

  -- Chains go down, and begin among the clauses.
  pub head_most : (n c v : ℕ) → get_or (head_to t most p (replicate n 0) c) v 0 ≤ c
  unfolding head_to
  head_most n zero v = let z = zeros n v in omega arith
  head_most n (suc c) v = set_most (head_to t most p (replicate n 0) c) (last_of t most p c) v _ _ (omega arith) (let h = head_most n c v in omega arith)

  pub next_falls : (n j c k : ℕ) → get_or (next_to t most p (replicate n 0) (replicate j 0) c) k 0 ≤ k
  unfolding next_to
  next_falls n j zero k = let z = zeros n k in omega arith
  next_falls n j (suc c) k =
      by_eq k c
      (λ e. rw e (set_most (next_to t most p (replicate n 0) (replicate j 0) c) c c _ _ (head_most j c (last_of t most p c)) (next_falls n j c c)))
      (λ d. rw (get_or-set_other (next_to t most p (replicate n 0) (replicate j 0) c) c k _ 0 d) (next_falls n j c k))
