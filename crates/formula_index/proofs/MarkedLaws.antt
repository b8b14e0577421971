-- The prefix read line by line, and the sides of its booleans.
use Prim.Native.Nat.{ℕ, suc, ◌+◌, ◌-◌, ◌*◌, ◌%◌, ◌≤◌, ◌<◌}
use mathlib.Core.Path.{◌≡◌, refl, sym, ap, ap₂, ◌∙◌}
use mathlib.Core.Bool.{Bool, true, false}
use mathlib.Core.List.{List, [], ◌∷◌, ◌++◌}
use borrow.Author.Tests.{eqb-true}
use lib.Dec.{T, eqb}
use lib.ListN.{length, get_or, set, replicate, length-set, length-replicate}
use lib.Seq.{get_or-set_same, get_or-set_other}
use native.Mathlib.Omega.{arith}
use Rattle.mask.proofs.Logic.{holds, and_out}
use Rattle.formula.specs.Formula.{Literal, Quantified}
use Rattle.formula.specs.Ordered.{counting}
use Rattle.formula.specs.Text.{literals_at, end_at, is_letter, quantified, blocks_at, blocks_end}
use Rattle.formula_index.specs.Marked.{marked, ranked}

pub marked_append : (l : List Bool) (xs ys : List Quantified) → marked l (xs ++ ys) ≡ marked (marked l xs) ys
unfolding marked
marked_append l [] ys = refl
marked_append l (q ∷ xs) ys = marked_append (set l (q.boolean % 513) q.universal) xs ys

-- One boolean more of a line of side u.
pub marked_next : (l : List Bool) (q : Literal) {x : ℕ} (u : Bool) (ls : List Literal) → q.boolean ≡ x
    → marked l (quantified u (q ∷ ls)) ≡ marked (set l (x % 513) u) (quantified u ls)
unfolding marked quantified
marked_next l q u ls e = rw e

-- ---- lines one after another

-- The first k lines are read: q is the place behind them, and from there the sides go on.
pub record Lined (t : List ℕ) (most p : ℕ) (sides₀ sides : List Bool) (q k : ℕ) : Type 0 where
  pub within : k ≤ most
  pub near : q ≤ p + 5645 * k
  pub ends : blocks_end t most (most - k) q ≡ blocks_end t most most p
  pub gives : marked sides (blocks_at t most (most - k) q) ≡ marked sides₀ (blocks_at t most most p)

module _ {t : List ℕ} {most p : ℕ} {sides₀ : List Bool} where
  module _ {sides : List Bool} {q k : ℕ} (g : Lined t most p sides₀ sides q k) where
    -- All lines are read, or no letter stands there.
    pub lined_all : most ≤ k → ((q ≡ blocks_end t most most p) × (q ≤ p + 5645 * most)) × (sides ≡ marked sides₀ (blocks_at t most most p))
    unfolding blocks_end blocks_at marked
    lined_all h =
        let z : most - k ≡ 0 = omega arith in
        let w = g.within in
        let n = g.near in ((rw z at g.ends, omega arith), rw z at g.gives)

    pub lined_stop : {b : ℕ} → k < most → b ≡ get_or t q 0 → is_letter b ≡ false
        → ((q ≡ blocks_end t most most p) × (q ≤ p + 5645 * most)) × (sides ≡ marked sides₀ (blocks_at t most most p))
    unfolding blocks_end blocks_at marked
    lined_stop h e d =
        let z : most - k ≡ suc (most - (k + 1)) = omega arith in
        let f : is_letter (get_or t q 0) ≡ false = ap is_letter (sym e) ∙ d in
        let w = g.within in
        let n = g.near in ((rw (z, f) at g.ends, omega arith), rw (z, f) at g.gives)

    pub lined_more : {b r : ℕ} {new : List Bool} → k < most → most ≤ 513 → b ≡ get_or t q 0 → is_letter b ≡ true
        → (r ≡ end_at t most (q + 2)) × (r ≤ q + 2 + 11 * most) → new ≡ marked sides (quantified (eqb b 97) (literals_at t most (q + 2)))
        → Lined t most p sides₀ new r (k + 1)
    unfolding blocks_end blocks_at
    lined_more h m e d x s =
        let z : most - k ≡ suc (most - (k + 1)) = omega arith in
        let f : is_letter (get_or t q 0) ≡ true = ap is_letter (sym e) ∙ d in
        let n = g.near in record {
          within = omega arith;
          near = omega (arith, x.1);
          ends = rw x.0 (rw (z, f) at g.ends);
          gives = rw (s, x.0, e, ← marked_append) (rw (z, f) at g.gives);
        }

-- ---- sides of a prefix that counts

-- A prefix that counts from v on leaves the sides below v.
marked-below : (l : List Bool) (qs : List Quantified) (v j : ℕ) → T (counting v qs) → v + length qs ≤ 513 → j < v → get_or (marked l qs) j false ≡ get_or l j false
unfolding marked counting
marked-below l [] v j t h m = refl
marked-below l (q ∷ qs) v j t h m =
    let w = and_out (eqb q.boolean v) (counting (suc v) qs) t in
    let e = eqb-true q.boolean v (holds w.0) in
    marked-below (set l (q.boolean % 513) q.universal) qs (suc v) j w.1 (omega arith) (omega arith) ∙ get_or-set_other l (q.boolean % 513) j _ false (λ d. omega arith)

-- With its own sides it is the ranked prefix.
pub marked_ranks : (l : List Bool) (qs : List Quantified) (v : ℕ) → length l ≡ 513 → T (counting v qs) → v + length qs ≤ 513
    → qs ≡ ranked (λ b. get_or (marked l qs) b false) (length qs) v
unfolding marked counting ranked
marked_ranks l [] v n t h = refl
marked_ranks l (q ∷ qs) v n t h =
    let w = and_out (eqb q.boolean v) (counting (suc v) qs) t in
    let e = eqb-true q.boolean v (holds w.0) in
    let new : List Bool = set l (q.boolean % 513) q.universal in
    let i : q.boolean % 513 ≡ v = omega arith in
    let s : get_or (marked new qs) v false ≡ q.universal = marked-below new qs (suc v) v w.1 (omega arith) (omega arith) ∙ ap (λ (j : ℕ). get_or new j false) (sym i) ∙ get_or-set_same l (q.boolean % 513) _ false (omega arith) in
    ap₂ ◌∷◌ (ap₂ (λ (u : Bool) (b : ℕ). record { universal = u; boolean = b }) (sym s) e)
    (marked_ranks new qs (suc v) (simp length-set n) w.1 (omega arith))

pub marked-ranked : (qs : List Quantified) (v : ℕ) → T (counting v qs) → v + length qs ≤ 513
    → qs ≡ ranked (λ b. get_or (marked (replicate 513 false) qs) b false) (length qs) v
marked-ranked qs v t h = marked_ranks (replicate 513 false) qs v (length-replicate {A = Bool} 513 false) t h
