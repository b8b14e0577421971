-- A walk along the clauses of one last boolean.
use mathlib.Core.Path.{◌≡◌, refl, sym, ap, ◌∙◌}
use mathlib.Core.Bool.{Bool, true, false, cond, not, ◌&&◌, ◌||◌}
use mathlib.Core.List.{List}
use Prim.Native.Nat.{ℕ, zero, suc, ◌≤◌, ◌<◌}
use native.Mathlib.Omega.{arith}
use lib.Dec.{eqb}
use lib.ListN.{get_or}
use borrow.Author.Tests.{eqb-true, eqb-false, eq-eqb}
use Rattle.mask.specs.Range.{each}
use Rattle.mask.proofs.Logic.{by_eq}
use Rattle.formula.specs.Formula.{clause_holds}
use Rattle.formula_index.specs.Chains.{before}
use Rattle.formula_judge.specs.Rest.{values_in, Links, clause_at, hold_at}

-- The last of the first k clauses that ends with v.
module _ (last : ℕ → ℕ) (v : ℕ) where
  pub before_most : (k : ℕ) → before last k v ≤ k
  unfolding before
  before_most zero = omega arith
  before_most (suc k) = go (eqb (last k) v) (before_most k)
    where
      go : (b : Bool) → before last k v ≤ k → cond b (suc k) (before last k v) ≤ suc k
      go true h = omega arith
      go false h = omega arith

  before_again : (k : ℕ) → before last (before last k v) v ≡ before last k v
  unfolding before
  before_again zero = refl
  before_again (suc k) = go (eqb (last k) v) refl (before_again k)
    where
      go : (b : Bool) → eqb (last k) v ≡ b → before last (before last k v) v ≡ before last k v
          → before last (cond b (suc k) (before last k v)) v ≡ cond b (suc k) (before last k v)
      go true e h = rw e refl
      go false e h = h

  -- None between it and k ends with v.
  before-each : (f : ℕ → Bool) (k : ℕ) → each k (λ j. eqb (last j) v) f ≡ each (before last k v) (λ j. eqb (last j) v) f
  unfolding before each
  before-each f zero = refl
  before-each f (suc k) = go (eqb (last k) v) refl (before-each f k)
    where
      go : (b : Bool) → eqb (last k) v ≡ b → each k (λ j. eqb (last j) v) f ≡ each (before last k v) (λ j. eqb (last j) v) f
          → ((not b || f k) && each k (λ j. eqb (last j) v) f) ≡ each (cond b (suc k) (before last k v)) (λ j. eqb (last j) v) f
      go true e h = rw e refl
      go false e h = h

  before_ends : (k : ℕ) → before last (suc k) v ≡ suc k → last k ≡ v
  unfolding before
  before_ends k h = go (eqb (last k) v) refl h
    where
      go : (b : Bool) → eqb (last k) v ≡ b → cond b (suc k) (before last k v) ≡ suc k → last k ≡ v
      go true e h = eqb-true (last k) v e
      go false e h = let m = before_most k in absurd (omega arith)

  -- Where it is one, that one ends with v.
  pub before-some : (k j : ℕ) → before last k v ≡ suc j → (j < k) × (last j ≡ v)
  before-some k j e = let m = before_most k in (omega arith, before_ends j (ap (λ (x : ℕ). before last x v) (sym e) ∙ before_again k ∙ e))

  -- Where it is none, none does.
  pub before_none : (k : ℕ) → before last k v ≡ 0 → (j : ℕ) → j < k → last j ≡ v → ⊥
  unfolding before
  before_none zero e j h q = absurd (omega arith)
  before_none (suc k) e j h q = go (eqb (last k) v) refl e (before_none k)
    where
      go : (b : Bool) → eqb (last k) v ≡ b → cond b (suc k) (before last k v) ≡ 0 → (before last k v ≡ 0 → (j : ℕ) → j < k → last j ≡ v → ⊥) → ⊥
      go true d z f = omega arith
      go false d z f = by_eq j k (λ w. eqb-false (last k) v d (rw w at q)) (λ w. f z j (omega arith) q)

module _ (t start next head : List ℕ) (most v : ℕ) (values : List Bool) where
  -- A walk has come to x: those behind x that end with v hold.
  pub record Walked (last : ℕ → ℕ) (c x : ℕ) : Type 0 where
    pub inside : x ≤ c
    pub ends : before last x v ≡ x
    pub rest : hold_at t start most last c v values ≡ hold_at t start most last x v values

  abbrev pub Walk : ℕ → Type 0
  Walk x = (last : ℕ → ℕ) (c : ℕ) → Links last c next head → Walked last c x

  pub walk_start : (x : ℕ) → v < 513 → x ≡ get_or head v 0 → Walk x
  unfolding hold_at
  walk_start x h e last c L =
      let q : x ≡ before last c v = e ∙ L.head v h in record {
        inside = let m = before_most last v c in omega arith;
        ends = rw q (before_again last v c);
        rest = rw q (before-each last v (λ k. clause_holds (values_in values) (clause_at t start most k)) c);
      }

  module _ (x y : ℕ) (W : Walk x) (e : x ≡ suc y) where
    walk_one : (last : ℕ → ℕ) (c : ℕ) → Links last c next head
        → (y < c) × (last y ≡ v) × (hold_at t start most last c v values ≡ (clause_holds (values_in values) (clause_at t start most y) && hold_at t start most last y v values))
    unfolding hold_at each
    walk_one last c L =
        let w = W last c L in
        let i = w.inside in
        let q : last y ≡ v = before_ends last v y (rw (← e) w.ends) in
        (omega arith, q, (rw e at w.rest) ∙ rw (eq-eqb (last y) v q) refl)

    -- The clause before x holds, and the walk goes on; or it is false.
    module _ {r : Bool} (w : r ≡ clause_holds (values_in values) (clause_at t start most y)) where
      walk_then : (last : ℕ → ℕ) (c : ℕ) → Links last c next head → hold_at t start most last c v values ≡ (r && hold_at t start most last y v values)
      walk_then last c L = rw w (walk_one last c L).2

      pub walk_next : (z : ℕ) → r ≡ true → z ≡ get_or next y 0 → Walk z
      unfolding hold_at
      walk_next z h n last c L =
          let o = walk_one last c L in
          let i = o.0 in
          let q : z ≡ before last y v = n ∙ L.next y o.0 ∙ ap (before last y) o.1 in record {
            inside = let m = before_most last v y in omega arith;
            ends = rw q (before_again last v y);
            rest = (rw h at (walk_then last c L)) ∙ rw q (before-each last v (λ k. clause_holds (values_in values) (clause_at t start most k)) y);
          }

      pub walk_false : r ≡ false → (last : ℕ → ℕ) (c : ℕ) → Links last c next head → false ≡ hold_at t start most last c v values
      walk_false h last c L = sym (rw h at (walk_then last c L))

  pub walk_end : (x : ℕ) → x ≡ 0 → Walk x → (last : ℕ → ℕ) (c : ℕ) → Links last c next head → true ≡ hold_at t start most last c v values
  unfolding hold_at each
  walk_end x e W last c L = sym (rw e at (W last c L).rest)
