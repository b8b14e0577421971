-- Laws of the layout: what a mark and a record's beginning say, where variables and constraints begin and end, and the records behind them.
use Prim.Native.Nat.{ℕ, zero, suc, ◌+◌, ◌-◌, ◌*◌, ◌/◌, ◌≤◌, ◌<◌}
use mathlib.Core.Path.{◌≡◌, refl, sym, ap, ◌∙◌}
use mathlib.Core.Bool.{Bool, true, false, cond}
use mathlib.Core.List.{List}
use mathlib.Core.Logic.{⊎_elim}
use lib.Dec.{leb}
use lib.ListN.{length, get_or}
use native.Mathlib.Nat.{le_refl, eq-or-lt_of_le}
use native.Mathlib.Omega.{arith}
use borrow.Author.Tests.{leb-true, le-leb, eqb-true}
use Rattle.mask.specs.Range.{each}
use Rattle.mask.proofs.Logic.{holds, true_holds, clash, by_lt}
use Rattle.mask.proofs.Range.{each_out}
use Rattle.refusal.specs.Chain.{Fine}
use Rattle.refusal.proofs.Chain.{then_fine, need_fine, then_ok, need_ok, both_true}
use Rattle.file_layout.specs.Layout.{TT, marked, opened, n_of, m_of, has_rules, variables_at, constraints_at, after_constraints, body_at, ternary_at, leading, t_of, end_at}
use Rattle.file_layout.proofs.NumberLaws.{Counts}

-- The mark stands at p: its two bytes are there.
pub record Mark (f : List ℕ) (p : ℕ) (m : List ℕ) : Type 0 where
  pub within : p + 2 ≤ length f
  pub one : get_or f p 0 ≡ get_or m 0 0
  pub two : get_or f (p + 1) 0 ≡ get_or m 1 0

pub mark_out : (f : List ℕ) (p : ℕ) (m : List ℕ) → marked f p m ≡ true → Mark f p m
unfolding marked
mark_out f p m e =
    let a = both_true _ _ e in
    let b = both_true _ _ a.1 in
    record { within = leb-true _ _ a.0; one = eqb-true _ _ b.0; two = eqb-true _ _ b.1 }

-- The beginning of a record.
pub opened_out : (f : List ℕ) (p : ℕ) (right : Bool) (k : ℕ) → opened f p right k ≡ Fine → (p + 2 + k ≤ length f) × (right ≡ true)
unfolding opened
opened_out f p right k q =
    let a = then_fine _ _ (then_fine _ _ q).1 in
    (leb-true _ _ (need_fine _ _ a.1), need_fine _ _ a.0)

pub opened_in : (f : List ℕ) (p : ℕ) (right : Bool) (k : ℕ) → p + 2 + k ≤ length f → right ≡ true → opened f p right k ≡ Fine
unfolding opened
opened_in f p right k h r =
    then_ok _ _ (need_ok _ _ (le-leb (p + 2) (length f) (omega arith)))
    (then_ok _ _ (need_ok _ _ r) (need_ok _ _ (le-leb (p + 2 + k) (length f) h)))

-- Where the variables begin.
pub start_most : (f : List ℕ) → variables_at f ≤ 8
unfolding variables_at
start_most f = go (has_rules f)
  where
    go : (t : Bool) → cond t 8 5 ≤ 8
    go true = omega arith
    go false = omega arith

-- Where the constraints end.
pub after_is : (f : List ℕ) → after_constraints f ≡ variables_at f + 4 * n_of f + 36 * m_of f
unfolding after_constraints constraints_at
after_is f = refl

pub variables-before : (f : List ℕ) → variables_at f + 4 * n_of f ≤ constraints_at f
unfolding constraints_at
variables-before f = omega arith

-- "Choices and records together number at most 32": behind the constraints t records of three variables, of at most 54 bytes each, end nowhere behind 17,992.
pub place_most : (n m t : ℕ) → Counts n m → n + t ≤ 32 → 8 + 4 * n + 36 * m + 54 * t ≤ 17992
unfolding each
place_most n m t c h =
    let table = each_out 33 (λ n. true) (λ n. leb (8 + 4 * n + 36 * (n * (n - 1) / 2) + 54 * (32 - n)) 17992) tt n (omega (arith, c.most)) tt in
    within (n * (n - 1) / 2) (leb-true _ _ (holds table)) c.pairs
  where
    within : (p : ℕ) → 8 + 4 * n + 36 * p + 54 * (32 - n) ≤ 17992 → m ≤ p → 8 + 4 * n + 36 * m + 54 * t ≤ 17992
    within p l k = omega arith

pub after_most : (f : List ℕ) (t : ℕ) → Counts (n_of f) (m_of f) → n_of f + t ≤ 32 → after_constraints f + 54 * t ≤ 17992
after_most f t c h = omega (arith, after_is f, start_most f, place_most (n_of f) (m_of f) t c h)

-- The records `TT` one behind another from p on, which may be counted from the second.
module _ (f : List ℕ) where
  pub ternary_next : (p q : ℕ) → ternary_at f p (suc q) ≡ ternary_at f (p + 2 + body_at f p) q
  unfolding ternary_at
  ternary_next p zero = refl
  ternary_next p (suc q) = ap (λ (r : ℕ). r + 2 + body_at f r) (ternary_next p q)

  pub ternary_ascends : (p r s : ℕ) → r ≤ s → ternary_at f p r ≤ ternary_at f p s
  unfolding ternary_at
  ternary_ascends p r zero h = let e : r ≡ 0 = omega arith in rw e (le_refl p)
  ternary_ascends p r (suc s) h =
      ⊎_elim
      (λ (e : r ≡ suc s). rw e (le_refl _))
      (λ (l : r < suc s). omega (arith, ternary_ascends p r s (omega arith)))
      (eq-or-lt_of_le h)

  -- Those counted have their marks, and where fewer are counted than could be no mark stands behind them.
  pub leading_marked : (p k r : ℕ) → r < leading f p k → marked f (ternary_at f p r) TT ≡ true
  unfolding leading ternary_at
  leading_marked p zero r h = absurd (omega arith)
  leading_marked p (suc k) r h = go (marked f p TT) refl r h (leading_marked (p + 2 + body_at f p) k)
    where
      go :
          (b : Bool) → marked f p TT ≡ b → (r : ℕ) → r < cond b (suc (leading f (p + 2 + body_at f p) k)) 0
          → ((r : ℕ) → r < leading f (p + 2 + body_at f p) k → marked f (ternary_at f (p + 2 + body_at f p) r) TT ≡ true) → marked f (ternary_at f p r) TT ≡ true
      go true e zero l ih = e
      go true e (suc r) l ih = ap (λ (a : ℕ). marked f a TT) (ternary_next p r) ∙ ih r (omega arith)
      go false e r l ih = absurd (omega arith)

  pub leading_most : (p k : ℕ) → leading f p k ≤ k
  unfolding leading
  leading_most p zero = le_refl 0
  leading_most p (suc k) = go (marked f p TT) (leading_most (p + 2 + body_at f p) k)
    where
      go : (b : Bool) → leading f (p + 2 + body_at f p) k ≤ k → cond b (suc (leading f (p + 2 + body_at f p) k)) 0 ≤ suc k
      go true ih = omega arith
      go false ih = omega arith

  pub leading_stops : (p k : ℕ) → leading f p k < k → marked f (ternary_at f p (leading f p k)) TT ≡ false
  unfolding leading ternary_at
  leading_stops p zero h = absurd (omega arith)
  leading_stops p (suc k) h = go (marked f p TT) refl h (leading_stops (p + 2 + body_at f p) k)
    where
      go :
          (b : Bool) → marked f p TT ≡ b → cond b (suc (leading f (p + 2 + body_at f p) k)) 0 < suc k
          → (leading f (p + 2 + body_at f p) k < k → marked f (ternary_at f (p + 2 + body_at f p) (leading f (p + 2 + body_at f p) k)) TT ≡ false)
          → marked f (ternary_at f p (cond b (suc (leading f (p + 2 + body_at f p) k)) 0)) TT ≡ false
      go true e l ih = ap (λ (a : ℕ). marked f a TT) (ternary_next p (leading f (p + 2 + body_at f p) k)) ∙ ih (omega arith)
      go false e l ih = e

  -- So r of them that have their marks are counted, one more where the next has it, and no more where it has not.
  pub leading_all : (p k r : ℕ) → r ≤ k → ((q : ℕ) → q < r → marked f (ternary_at f p q) TT ≡ true) → r ≤ leading f p k
  leading_all p k r h m = by_lt (leading f p k) r (λ l. absurd (clash (leading_stops p k (omega arith)) (true_holds (m _ l)))) (λ l. l)

  pub leading_more : (p k r : ℕ) → r ≤ leading f p k → r < k → marked f (ternary_at f p r) TT ≡ true → r < leading f p k
  leading_more p k r h l m =
      by_lt r (leading f p k) (λ i. i)
      (λ i. let e : leading f p k ≡ r = omega arith in absurd (clash (ap (λ (a : ℕ). marked f (ternary_at f p a) TT) (sym e) ∙ leading_stops p k (omega arith)) (true_holds m)))

  pub leading_is : (p k r : ℕ) → r ≤ leading f p k → marked f (ternary_at f p r) TT ≡ false → leading f p k ≡ r
  leading_is p k r h m = by_lt r (leading f p k) (λ l. absurd (clash m (true_holds (leading_marked p k r l)))) (λ l. omega arith)

-- Where the records end: behind the constraints.
pub end_behind : (f : List ℕ) → constraints_at f + 36 * m_of f ≤ end_at f
unfolding end_at after_constraints ternary_at
end_behind f = ternary_ascends f (after_constraints f) 0 (t_of f) (omega arith)
