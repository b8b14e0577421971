-- Laws of chained tests: what a chain that is fine says, what makes it fine, and where it stops.
use Prim.Native.Nat.{ℕ, zero, suc, ◌≤◌, ◌<◌}
use mathlib.Core.Path.{◌≡◌, refl, sym, ap, ◌∙◌}
use mathlib.Core.Bool.{Bool, true, false, ◌&&◌, false≢true}
use mathlib.Core.Logic.{⊎_elim}
use native.Mathlib.Nat.{eq-or-lt_of_le}
use native.Mathlib.Omega.{arith}
use Rattle.std.specs.Prelude.{Result, Ok, Err}
use Rattle.std.specs.Result.{result_and}
use Rattle.refusal.specs.Chain.{Test, Fine, ◌then◌, need, only, placed}
use Rattle.refusal.specs.Reason.{◌at◌}

is_fine : {E : Type 0} → Result (Unit {0}) E → Bool
is_fine (Ok u) = true
is_fine (Err e) = false

-- A refusal is not fine.
pub not_fine : {E X : Type 0} (e : E) → Err e ≡ Fine → X
unfolding is_fine
not_fine e q = absurd (false≢true (ap is_fine q))

module _ {E : Type 0} where
  -- Both parts of a fine chain are fine, and a chain of fine parts is.
  pub then_fine : (s t : Result (Unit {0}) E) → (s then t) ≡ Fine → (s ≡ Fine) × (t ≡ Fine)
  unfolding ◌then◌
  then_fine (Ok u) t q = (refl, q)
  then_fine (Err e) t q = not_fine e q

  pub go : (s t : Result (Unit {0}) E) → s ≡ Fine → (s then t) ≡ t
  unfolding ◌then◌
  go s t q = rw q

  pub stop : (s t : Result (Unit {0}) E) (e : E) → s ≡ Err e → (s then t) ≡ Err e
  unfolding ◌then◌
  stop s t e q = rw q

  pub then_ok : (s t : Result (Unit {0}) E) → s ≡ Fine → t ≡ Fine → (s then t) ≡ Fine
  then_ok s t p q = go s t p ∙ q

  -- What comes behind a part counts only where that part is fine.
  pub then_same : (s t u : Result (Unit {0}) E) → (s ≡ Fine → t ≡ u) → (s then t) ≡ (s then u)
  unfolding ◌then◌
  then_same (Ok u) t v h = h refl
  then_same (Err e) t v h = refl

  pub then_assoc : (s t u : Result (Unit {0}) E) → ((s then t) then u) ≡ (s then t then u)
  unfolding ◌then◌
  then_assoc (Ok v) t u = refl
  then_assoc (Err e) t u = refl

  -- The library's word for a chain.
  pub and_is : (s t : Result (Unit {0}) E) → result_and s t ≡ (s then t)
  unfolding ◌then◌
  and_is (Ok u) t = refl
  and_is (Err e) t = refl

  -- What the code makes of a chain with `?`: v is a part as it is made, s the part of the definition.
  pub stops : {v : Result (Unit {0}) E} {e : E} (s t : Result (Unit {0}) E) → v ≡ s → v ≡ Err e → Err e ≡ (s then t)
  stops s t p q = sym (stop s t _ (sym p ∙ q))

  pub goes : {v r : Result (Unit {0}) E} {u : Unit {0}} (s t : Result (Unit {0}) E) → v ≡ s → v ≡ Ok u → r ≡ t → r ≡ (s then t)
  goes s t p q h = h ∙ sym (go s t (sym p ∙ q))

  -- v k is the chain of the first k tests of t, as a loop makes them: where test k is the first that refuses, every longer chain says so.
  module _ (v t : ℕ → Result (Unit {0}) E) (more : (k : ℕ) → v (suc k) ≡ (v k then t k)) where
    longer : (e : E) (k n : ℕ) → k ≤ n → v k ≡ Err e → v n ≡ Err e
    longer e k zero h q = let z : k ≡ 0 = omega arith in rw z at q
    longer e k (suc n) h q =
        ⊎_elim
        (λ (i : k ≡ suc n). rw i at q)
        (λ (l : k < suc n). more n ∙ stop (v n) (t n) e (longer e k n (omega arith) q))
        (eq-or-lt_of_le h)

    pub first_refusal : {w : Result (Unit {0}) E} {e : E} (k n : ℕ) → k < n → v k ≡ Fine → w ≡ t k → w ≡ Err e → Err e ≡ v n
    first_refusal {w} {e} k n h q s r = sym (longer e (suc k) n (omega arith) (more k ∙ go (v k) (t k) q ∙ sym s ∙ r))

    pub next_fine : {w : Result (Unit {0}) E} {u : Unit {0}} (k : ℕ) → v k ≡ Fine → w ≡ t k → w ≡ Ok u → v (suc k) ≡ Fine
    next_fine k q s r = more k ∙ go (v k) (t k) q ∙ sym s ∙ r

  -- One test.
  pub need_fine : (b : Bool) (e : E) → need b e ≡ Fine → b ≡ true
  unfolding need
  need_fine true e q = refl
  need_fine false e q = not_fine e q

  pub need_ok : (b : Bool) (e : E) → b ≡ true → need b e ≡ Fine
  unfolding need
  need_ok b e q = rw q

  pub need_stops : {d : E} (b : Bool) (e : E) → need b e ≡ Err d → (b ≡ false) × (d ≡ e)
  unfolding need
  need_stops true e q = absurd (cc)
  need_stops false e q = (refl, cc)

  -- A test that is made only where b holds.
  pub so : (b : Bool) (t : Result (Unit {0}) E) → b ≡ true → only b t ≡ t
  unfolding only
  so b t q = rw q

  pub not_so : (b : Bool) (t : Result (Unit {0}) E) → b ≡ false → only b t ≡ Fine
  unfolding only
  not_so b t q = rw q

-- A test that gets its place.
pub placed_fine : (p : ℕ) (t : Test) → placed p t ≡ Fine → t ≡ Fine
unfolding placed
placed_fine p (Ok u) q = refl
placed_fine p (Err e) q = not_fine (e at p) q

pub placed_ok : (p : ℕ) (t : Test) → t ≡ Fine → placed p t ≡ Fine
unfolding placed
placed_ok p t q = rw q

-- A conjunction and its parts.
pub both_true : (a b : Bool) → (a && b) ≡ true → (a ≡ true) × (b ≡ true)
both_true true b q = (refl, q)
both_true false b q = (q, absurd (false≢true q))

pub both_ok : (a b : Bool) → a ≡ true → b ≡ true → (a && b) ≡ true
both_ok a b p q = rw (p, q)
