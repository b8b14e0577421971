-- Blocks of booleans under one quantifier: k of them from v on get the values x 0, x 1, ..
use mathlib.Core.Path.{◌≡◌, refl, ◌∙◌}
use mathlib.Core.Bool.{Bool, true, false, cond, ◌&&◌, ◌||◌}
use mathlib.Core.List.{List, [], ◌∷◌, ◌++◌}
use Prim.Native.Nat.{ℕ, zero, suc, ◌+◌, ◌≤◌, ◌<◌}
use native.Mathlib.Omega.{arith}
use lib.Dec.{T, leb, leb→le, le→leb}
use borrow.Author.Tests.{eq-eqb, ne_eqb}
use Rattle.mask.proofs.Logic.{and_in, and_out, or_left, or_right, or_out}
use Rattle.formula.specs.Formula.{Literal, Quantified, Assignment, assign, only_if, all_hold, judged}
use Rattle.formula.specs.Encoding.{run}

pub assign_at : (s : Assignment) (v : ℕ) (x : Bool) → assign s v x v ≡ x
unfolding assign
assign_at s v x = rw (eq-eqb v v refl)

pub assign_off : (s : Assignment) (v : ℕ) (x : Bool) (w : ℕ) → ¬ (w ≡ v) → assign s v x w ≡ s w
unfolding assign
assign_off s v x w h = rw (ne_eqb w v h)

-- The assignment with the values x for the k booleans from v on.
unfoldable pub spread : Assignment → ℕ → ℕ → (ℕ → Bool) → Assignment
spread s v zero x = s
spread s v (suc k) x = spread (assign s v (x 0)) (suc v) k (λ t. x (suc t))

pub spread-below : (s : Assignment) (v k : ℕ) (x : ℕ → Bool) (w : ℕ) → w < v → spread s v k x w ≡ s w
unfolding spread
spread-below s v zero x w h = refl
spread-below s v (suc k) x w h =
    spread-below (assign s v (x 0)) (suc v) k (λ t. x (suc t)) w (omega arith) ∙ assign_off s v (x 0) w (omega arith)

pub spread_at : (s : Assignment) (v k : ℕ) (x : ℕ → Bool) (t : ℕ) → t < k → spread s v k x (v + t) ≡ x t
unfolding spread
spread_at s v zero x t h = absurd (omega arith)
spread_at s v (suc k) x zero h =
    let e : v + 0 ≡ v = omega arith in
    rw e (spread-below (assign s v (x 0)) (suc v) k (λ t. x (suc t)) v (omega arith) ∙ assign_at s v (x 0))
spread_at s v (suc k) x (suc t) h =
    let e : v + suc t ≡ suc v + t = omega arith in
    rw e (spread_at (assign s v (x 0)) (suc v) k (λ t. x (suc t)) t (omega arith))

-- Values with one more in front.
unfoldable ahead : Bool → (ℕ → Bool) → ℕ → Bool
ahead b x zero = b
ahead b x (suc t) = x t

-- Every boolean of the prefix is v or above.
unfoldable pub from : ℕ → List Quantified → Bool
from v [] = true
from v (q ∷ qs) = leb v q.boolean && from v qs

pub from-run : (u : Bool) (v w k : ℕ) (qs : List Quantified) → v ≤ w → T (from v qs) → T (from v (run u w k ++ qs))
unfolding from run
from-run u v w zero qs h t = t
from-run u v w (suc k) qs h t = and_in (leb v w) (from v (run u (suc w) k ++ qs)) (le→leb v w h) (from-run u v (suc w) k qs (omega arith) t)

pub from_closing : (b : Bool) (v w : ℕ) → v ≤ w → T (from v (only_if b (record { universal = false; boolean = w } ∷ [])))
unfolding from only_if
from_closing true v w h = and_in (leb v w) true (le→leb v w h) tt
from_closing false v w h = tt

-- One of two tests that a quantifier joins.
choose : {A : Type 0} (u x y : Bool) → T (cond u (x && y) (x || y)) → (T x → A) → (T y → A) → A
choose true x y t f g = f (and_out x y t).0
choose false x y t f g = or_out x y t f g

module _ (cs : List (List Literal)) where
  -- A universal block: won exactly if every spread is.
  pub every_out : (k : ℕ) (qs : List Quantified) (v : ℕ) (s : Assignment) → T (judged cs (run true v k ++ qs) s) → (x : ℕ → Bool) → T (judged cs qs (spread s v k x))
  unfolding judged spread run
  every_out zero qs v s t x = t
  every_out (suc k) qs v s t x =
      let r = and_out (judged cs (run true (suc v) k ++ qs) (assign s v false)) (judged cs (run true (suc v) k ++ qs) (assign s v true)) t in
      every_out k qs (suc v) (assign s v (x 0)) (go (x 0) r.0 r.1) (λ t. x (suc t))
    where
      go : (b : Bool) → T (judged cs (run true (suc v) k ++ qs) (assign s v false)) → T (judged cs (run true (suc v) k ++ qs) (assign s v true))
          → T (judged cs (run true (suc v) k ++ qs) (assign s v b))
      go true f g = g
      go false f g = f

  pub every_in : (k : ℕ) (qs : List Quantified) (v : ℕ) (s : Assignment) → ((x : ℕ → Bool) → T (judged cs qs (spread s v k x))) → T (judged cs (run true v k ++ qs) s)
  unfolding judged spread run ahead
  every_in zero qs v s f = f (λ t. false)
  every_in (suc k) qs v s f =
      and_in (judged cs (run true (suc v) k ++ qs) (assign s v false)) (judged cs (run true (suc v) k ++ qs) (assign s v true))
      (every_in k qs (suc v) (assign s v false) (λ x. f (ahead false x))) (every_in k qs (suc v) (assign s v true) (λ x. f (ahead true x)))

  -- An existential one: won exactly if some spread is.
  pub some_out : (k : ℕ) (qs : List Quantified) (v : ℕ) (s : Assignment) → T (judged cs (run false v k ++ qs) s) → (x : ℕ → Bool) × T (judged cs qs (spread s v k x))
  unfolding judged spread run ahead
  some_out zero qs v s t = (λ _. false, t)
  some_out (suc k) qs v s t =
      or_out (judged cs (run false (suc v) k ++ qs) (assign s v false)) (judged cs (run false (suc v) k ++ qs) (assign s v true)) t
      (λ u. let r = some_out k qs (suc v) (assign s v false) u in (ahead false r.0, r.1))
      (λ u. let r = some_out k qs (suc v) (assign s v true) u in (ahead true r.0, r.1))

  pub some_in : (k : ℕ) (qs : List Quantified) (v : ℕ) (s : Assignment) (x : ℕ → Bool) → T (judged cs qs (spread s v k x)) → T (judged cs (run false v k ++ qs) s)
  unfolding judged spread run
  some_in zero qs v s x t = t
  some_in (suc k) qs v s x t = go (x 0) (some_in k qs (suc v) (assign s v (x 0)) (λ t. x (suc t)) t)
    where
      go : (b : Bool) → T (judged cs (run false (suc v) k ++ qs) (assign s v b))
          → T (judged cs (run false (suc v) k ++ qs) (assign s v false) || judged cs (run false (suc v) k ++ qs) (assign s v true))
      go true t = or_right (judged cs (run false (suc v) k ++ qs) (assign s v false)) (judged cs (run false (suc v) k ++ qs) (assign s v true)) t
      go false t = or_left (judged cs (run false (suc v) k ++ qs) (assign s v false)) (judged cs (run false (suc v) k ++ qs) (assign s v true)) t

  -- A formula that is won has an assignment under which all clauses hold, with the values that were given to booleans below those of the prefix.
  pub leaf : (qs : List Quantified) (v : ℕ) (s : Assignment) → T (from v qs) → T (judged cs qs s) → (s' : Assignment) × ((w : ℕ) → w < v → s' w ≡ s w) × T (all_hold s' cs)
  unfolding judged from
  leaf [] v s f t = (s, λ w h. refl, t)
  leaf (q ∷ qs) v s f t =
      let g = and_out (leb v q.boolean) (from v qs) f in
      choose q.universal (judged cs qs (assign s q.boolean false)) (judged cs qs (assign s q.boolean true)) t
      (λ u. back (leb→le v q.boolean g.0) false (leaf qs v (assign s q.boolean false) g.1 u))
      (λ u. back (leb→le v q.boolean g.0) true (leaf qs v (assign s q.boolean true) g.1 u))
    where
      back : v ≤ q.boolean → (b : Bool) → (s' : Assignment) × ((w : ℕ) → w < v → s' w ≡ assign s q.boolean b w) × T (all_hold s' cs)
          → (s' : Assignment) × ((w : ℕ) → w < v → s' w ≡ s w) × T (all_hold s' cs)
      back l b r = (r.0, λ w h. r.1 w h ∙ assign_off s q.boolean b w (omega arith), r.2)
