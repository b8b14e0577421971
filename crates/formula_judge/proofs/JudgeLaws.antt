-- Formulas whose booleans are judged in ascending order: what a verdict rests on, where a branch may end, and how a turn joins its two values.
use mathlib.Core.Path.{◌≡◌, refl, sym, ap, ap₂, ◌∙◌}
use mathlib.Core.Bool.{Bool, true, false, cond, not, ◌&&◌, ◌||◌}
use mathlib.Core.List.{List, [], ◌∷◌}
use Prim.Native.Nat.{ℕ, zero, suc, ◌+◌, ◌≤◌, ◌<◌}
use native.Mathlib.Omega.{arith}
use lib.Dec.{T, leb, le→leb, ltb, lt→ltb}
use Rattle.mask.proofs.Logic.{same, holds, by_eq, and_in}
use Rattle.buffer.specs.Stored.{joined}
use Rattle.formula.specs.Formula.{Literal, Assignment, assign, literal_holds, clause_holds, all_hold, judged}
use Rattle.formula.specs.Ordered.{ascending}
use Rattle.formula_theory.proofs.Clauses.{all_both, all_one, all_joined}
use Rattle.formula_theory.proofs.OrderLaws.{ascending_out}
use Rattle.formula_theory.proofs.Blocks.{assign_at, assign_off, from, leaf}
use Rattle.formula_index.specs.Chains.{last_from}
use Rattle.formula_index.specs.Marked.{ranked}

-- Assignments that agree at b agree there once v has a value.
pub assign-agree : (s s' : Assignment) (v : ℕ) (x : Bool) (b : ℕ) → (¬ (b ≡ v) → s b ≡ s' b) → assign s v x b ≡ assign s' v x b
assign-agree s s' v x b e =
    by_eq b v (λ z. rw z (assign_at s v x ∙ sym (assign_at s' v x))) (λ z. assign_off s v x b z ∙ e z ∙ sym (assign_off s' v x b z))

-- ---- clauses with ascending literals

-- The last boolean is between the bounds, and the greatest.
pub last-from : (most v : ℕ) (c : List Literal) → T (ascending most v c) → v ≤ last_from v c
unfolding last_from
last-from most v [] t = omega arith
last-from most v (l ∷ ls) t =
    let r = ascending_out most v l ls t in let a = r.0 in let b = last-from most l.boolean ls r.2 in omega arith

pub last_most : (most v : ℕ) (c : List Literal) → v ≤ most → T (ascending most v c) → last_from v c ≤ most
unfolding last_from
last_most most v [] h t = h
last_most most v (l ∷ ls) h t = let r = ascending_out most v l ls t in last_most most l.boolean ls r.1 r.2

pub ascending-last : (most v : ℕ) (c : List Literal) → T (ascending most v c) → T (ascending (last_from v c) v c)
unfolding ascending last_from
ascending-last most v [] t = tt
ascending-last most v (l ∷ ls) t =
    let r = ascending_out most v l ls t in
    and_in (ltb v l.boolean && leb l.boolean (last_from l.boolean ls)) (ascending (last_from l.boolean ls) l.boolean ls)
    (and_in (ltb v l.boolean) (leb l.boolean (last_from l.boolean ls)) (lt→ltb v l.boolean r.0)
    (le→leb l.boolean (last_from l.boolean ls) (last-from most l.boolean ls r.2)))
    (ascending-last most l.boolean ls r.2)

-- One without a last boolean has no literals, and is false.
pub last_none : (s : Assignment) (most : ℕ) (c : List Literal) → T (ascending most 0 c) → last_from 0 c ≡ 0 → clause_holds s c ≡ false
unfolding last_from clause_holds
last_none s most [] t e = refl
last_none s most (l ∷ ls) t e =
    let r = ascending_out most 0 l ls t in let a = r.0 in let b = last-from most l.boolean ls r.2 in absurd (omega arith)

-- Under assignments that agree up to `most`, above which it has no boolean, a clause holds alike.
pub clause-agree : (s s' : Assignment) (most v : ℕ) (c : List Literal) → T (ascending most v c) → ((b : ℕ) → b ≤ most → s b ≡ s' b) → clause_holds s c ≡ clause_holds s' c
unfolding clause_holds literal_holds
clause-agree s s' most v [] t e = refl
clause-agree s s' most v (l ∷ ls) t e =
    let r = ascending_out most v l ls t in
    ap₂ ◌||◌ (ap (λ (b : Bool). cond l.positive b (not b)) (e l.boolean r.1)) (clause-agree s s' most l.boolean ls r.2 e)

-- So it does under assignments that agree up to its last boolean.
pub last-agree : (s s' : Assignment) (most w : ℕ) (c : List Literal) → T (ascending most 0 c) → last_from 0 c ≤ w → ((b : ℕ) → b ≤ w → s b ≡ s' b)
    → clause_holds s c ≡ clause_holds s' c
last-agree s s' most w c t h e = clause-agree s s' (last_from 0 c) 0 c (ascending-last most 0 c t) (λ b l. e b (omega arith))

-- ---- the c clauses g 0, g 1, ..

module _ (g : ℕ → List Literal) where
  pub all_in_lem : (s : Assignment) (c : ℕ) → ((k : ℕ) → k < c → T (clause_holds s (g k))) → T (all_hold s (joined (λ k. g k ∷ []) c))
  unfolding all_hold joined
  all_in_lem s zero f = tt
  all_in_lem s (suc c) f =
      all_both s (joined (λ k. g k ∷ []) c) (g c ∷ []) (all_in_lem s c (λ k h. f k (omega arith))) (and_in (clause_holds s (g c)) true (f c (omega arith)) tt)

  pub all_out : (s : Assignment) (c : ℕ) → T (all_hold s (joined (λ k. g k ∷ []) c)) → (k : ℕ) → k < c → T (clause_holds s (g k))
  all_out s c t k h = all_one s (g k) (all_joined s (λ k. g k ∷ []) c t k h)

  pub all_agree : (s s' : Assignment) (most c : ℕ) → ((k : ℕ) → k < c → T (ascending most 0 (g k))) → ((b : ℕ) → b ≤ most → s b ≡ s' b)
      → all_hold s (joined (λ k. g k ∷ []) c) ≡ all_hold s' (joined (λ k. g k ∷ []) c)
  all_agree s s' most c a e =
      same (all_hold s (joined (λ k. g k ∷ []) c)) (all_hold s' (joined (λ k. g k ∷ []) c))
      (λ t. all_in_lem s' c (λ k h. rw (sym (clause-agree s s' most 0 (g k) (a k h) e)) (all_out s c t k h)))
      (λ t. all_in_lem s c (λ k h. rw (clause-agree s s' most 0 (g k) (a k h) e) (all_out s' c t k h)))

  module _ (side : ℕ → Bool) (c : ℕ) where
    -- The verdict rests on the values of the booleans up to v alone, where those to come are the ones above it.
    pub judged-agree : (most left v : ℕ) (s s' : Assignment) → most ≤ v + left → ((k : ℕ) → k < c → T (ascending most 0 (g k))) → ((b : ℕ) → b ≤ v → s b ≡ s' b)
        → judged (joined (λ k. g k ∷ []) c) (ranked side left (suc v)) s ≡ judged (joined (λ k. g k ∷ []) c) (ranked side left (suc v)) s'
    unfolding judged ranked
    judged-agree most zero v s s' l a e = all_agree s s' most c a (λ b h. e b (omega arith))
    judged-agree most (suc left) v s s' l a e =
        ap₂ (λ (no yes : Bool). cond (side (suc v)) (no && yes) (no || yes))
        (judged-agree most left (suc v) (assign s (suc v) false) (assign s' (suc v) false) (omega arith) a (given false))
        (judged-agree most left (suc v) (assign s (suc v) true) (assign s' (suc v) true) (omega arith) a (given true))
      where
        given : (x : Bool) (b : ℕ) → b ≤ suc v → assign s (suc v) x b ≡ assign s' (suc v) x b
        given x b h = assign-agree s s' (suc v) x b (λ z. e b (omega arith))

    from-ranked : (left v w : ℕ) → w ≤ v → T (from w (ranked side left v))
    unfolding from ranked
    from-ranked zero v w h = tt
    from-ranked (suc left) v w h = and_in (leb w v) (from w (ranked side left (suc v))) (le→leb w v h) (from-ranked left (suc v) w (omega arith))

    -- A branch that is won leaves no clause false whose booleans all have values.
    pub won_holds : (most left v : ℕ) (s : Assignment) → T (judged (joined (λ k. g k ∷ []) c) (ranked side left (suc v)) s)
        → (k : ℕ) → k < c → T (ascending most 0 (g k)) → last_from 0 (g k) ≤ v → T (clause_holds s (g k))
    won_holds most left v s t k h a l =
        let r = leaf (joined (λ k. g k ∷ []) c) (ranked side left (suc v)) (suc v) s (from-ranked left (suc v) (suc v) (omega arith)) t in
        rw (sym (last-agree r.0 s most v (g k) a l (λ b z. r.1 b (omega arith)))) (all_out r.0 c r.2 k h)

    -- One with no boolean to come is won where all clauses hold.
    pub won_all : (v : ℕ) (s : Assignment) → ((k : ℕ) → k < c → T (clause_holds s (g k))) → judged (joined (λ k. g k ∷ []) c) (ranked side zero v) s ≡ true
    unfolding judged ranked
    won_all v s f = holds (all_in_lem s c f)
