-- What a call of the judge knows of the text t and its index, and what it replies.
use Rattle.std.specs.Prelude.{ℕ, suc, ◌-◌, ◌%◌, ◌≤◌, ◌<◌, ◌≡◌, Bool, false, List, [], ◌∷◌, T, eqb, get_or, length}
use Rattle.mask.specs.Range.{each}
use Rattle.buffer.specs.Stored.{joined}
use Rattle.formula.specs.Formula.{Literal, Assignment, clause_holds, judged}
use Rattle.formula.specs.Text.{literals_at}
use Rattle.formula.specs.Ordered.{ascending}
use Rattle.formula_index.specs.Chains.{last_from, before}
use Rattle.formula_index.specs.Marked.{ranked}

-- The values that the list l gives booleans.
unfoldable pub values_in : List Bool → Assignment
values_in l b = get_or l (b % 513) false

-- next and head chain the first c clauses by their last booleans.
pub record Links (last : ℕ → ℕ) (c : ℕ) (nexts heads : List ℕ) : Type 0 where
  pub most : c ≤ 127008
  pub next : (k : ℕ) → k < c → get_or nexts k 0 ≡ before last k (last k)
  pub head : (v : ℕ) → v < 513 → get_or heads v 0 ≡ before last c v

-- Clause k, as it stands in the text; lines have fewer than `most` literals.
unfoldable pub clause_at : List ℕ → List ℕ → ℕ → ℕ → List Literal
clause_at t start most k = literals_at t most (get_or start k 0)

-- Of the first c clauses, those whose last boolean is v hold.
unfoldable pub hold_at : List ℕ → List ℕ → ℕ → (ℕ → ℕ) → ℕ → ℕ → List Bool → Bool
hold_at t start most last c v values = each c (λ k. eqb (last k) v) (λ k. clause_holds (values_in values) (clause_at t start most k))

module _ (t start next head : List ℕ) (sides : List Bool) (count : ℕ) where
  -- The first c clauses end with the booleans `last` and have ascending literals.
  pub record Formed (last : ℕ → ℕ) (c : ℕ) : Type 0 where
    pub links : Links last c next head
    pub ends : (k : ℕ) → k < c → last k ≡ last_from 0 (clause_at t start (suc count) k)
    pub ascends : (k : ℕ) → k < c → T (ascending count 0 (clause_at t start (suc count) k))

  -- Those with a last boolean below v hold.
  abbrev pub SettledTo : (ℕ → ℕ) → ℕ → ℕ → List Bool → Type 0
  SettledTo last c v values = (k : ℕ) → k < c → last k < v → T (clause_holds (values_in values) (clause_at t start (suc count) k))

  -- The reply with `left` booleans to come, from these values, and the values left: those of the booleans before stay.
  pub record Rest (left : ℕ) (values values' : List Bool) (r : Bool) : Type 0 where
    pub size : length values' ≡ 513
    pub kept : (b : ℕ) → b ≤ count - left → get_or values' b false ≡ get_or values b false
    pub verdict : (last : ℕ → ℕ) (c : ℕ) → Formed last c → SettledTo last c (suc (count - left)) values
        → r ≡ judged (joined (λ k. clause_at t start (suc count) k ∷ []) c) (ranked (λ b. get_or sides b false) left (suc (count - left))) (values_in values)
