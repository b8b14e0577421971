-- Conflict sets never change verdict or leaf: searches under two sets that differ in rule 6 alone hand up the same leaf.
use mathlib.Core.Path.{◌≡◌, refl, sym, ap, ◌∙◌}
use mathlib.Core.Bool.{Bool, true, false, cond, not, ◌&&◌}
use mathlib.Core.List.{List, [], ◌∷◌, ◌++◌}
use Prim.Native.Nat.{ℕ, zero, suc, ◌+◌, ◌<◌}
use native.Mathlib.Omega.{arith}
use lib.Dec.{T}
use lib.Bits.{bit_or}
use lib.ListN.{get_or, length}
use Rattle.mask.specs.Mask.{bit}
use Rattle.mask.proofs.Logic.{clash}
use Rattle.game.specs.Problem.{Problem}
use Rattle.game.specs.Lists.{domains}
use Rattle.game.specs.Rule.{uses}
use Rattle.game.specs.Turn.{next_list}
use Rattle.game.specs.Reasons.{next_reasons, Step, explained}
use Rattle.game.specs.Search.{Ending, solved, failed, is_solved, or_else, and_also, hand_up, some_value, untried, each_value, check_set, leaf, skippable, narrow_next, start_set, search}
use Rattle.game.specs.Turns.{turn_below}
use Rattle.theory.specs.OtherSets.{Others}
use Rattle.theory.proofs.TurnLists.{snoc_length}
use Rattle.theory.proofs.Values
use Rattle.theory.proofs.Search.{after}
use Rattle.theory.proofs.Turns
use Rattle.theory.proofs.Turns.{At, inner, search-next}

-- Two answers: a leaf is no conflict set, and each leaf is one leaf.
not-both : {A : Type 0} (S : ℕ) (q : List ℕ) → failed S ≡ solved q → A
not-both S q e = absurd (let z : ◌≡◌ {A = ℕ} 0 1 = cc in omega arith)

one-leaf : (r : Ending) (q q' : List ℕ) → r ≡ solved q → r ≡ solved q' → q ≡ q'
one-leaf r q q' e e' = cc

hand_up_out : (jump : Bool) (i : ℕ) (r : Ending) (q : List ℕ) → hand_up jump i r ≡ solved q → r ≡ solved q
unfolding hand_up
hand_up_out jump i (solved r) q e = e
hand_up_out jump i (failed S) q e = not-both _ q e

hand_up_in : (jump : Bool) (i : ℕ) (r : Ending) (q : List ℕ) → r ≡ solved q → hand_up jump i r ≡ solved q
unfolding hand_up
hand_up_in jump i r q e = rw e

leaf_of : (r : Ending) → is_solved r ≡ true → (q : List ℕ) × (r ≡ solved q)
leaf_of (solved q) e = (q, refl)
leaf_of (failed S) e = absurd (clash (sym e) tt)

in_domain : (l : List ℕ) (i a : ℕ) → T (bit (get_or l i 0) a) → T (domains l i a)
unfolding domains
in_domain l i a t = t

-- At the values of d, g answers each leaf that f answers.
abbrev Follows : ℕ → (ℕ → Ending) → (ℕ → Ending) → Type 0
Follows d f g = (a : ℕ) → a < 16 → T (bit d a) → (q : List ℕ) → f a ≡ solved q → g a ≡ solved q

-- The universal turn.
each_follows : (skips : List ℕ → ℕ → Bool) (f g : ℕ → Ending) (d v a u : ℕ) (q₀ q : List ℕ) → v + a ≡ 16 → ((b : ℕ) → b < 16 → T (bit u b) → T (bit d b)) → Follows d f g
    → each_value skips f v a u q₀ ≡ solved q → each_value skips g v a u q₀ ≡ solved q
unfolding each_value
each_follows skips f g d zero a u q₀ q z sub h e = e
each_follows skips f g d (suc v) a u q₀ q z sub h e = go (bit u a) refl (f a) refl e (each_follows skips f g d v (suc a))
  where
    go : (b : Bool) → bit u a ≡ b → (r : Ending) → f a ≡ r → cond b (and_also r (λ r. each_value skips f v (suc a) (untried (skips r) a u) r)) (each_value skips f v (suc a) u q₀) ≡ solved q
        → ((u : ℕ) (q₀ q : List ℕ) → v + suc a ≡ 16 → ((b : ℕ) → b < 16 → T (bit u b) → T (bit d b)) → Follows d f g → each_value skips f v (suc a) u q₀ ≡ solved q → each_value skips g v (suc a) u q₀ ≡ solved q)
        → cond b (and_also (g a) (λ r. each_value skips g v (suc a) (untried (skips r) a u) r)) (each_value skips g v (suc a) u q₀) ≡ solved q
    go false m r re e ih = ih u q₀ q (omega arith) sub h e
    go true m (failed S) re e ih = not-both S q e
    go true m (solved r) re e ih =
        rw (h a (omega arith) (sub a (omega arith) (rw m tt)) r re)
        (ih (untried (skips r) a u) r q (omega arith) (λ b l t. sub b l (Values.untried_sub (skips r) a u b l t)) h e)

-- The existential turn: with or without rule 6 the leaf is that of the first value that wins.
some_follows : (jump : Bool) (i d : ℕ) (f g : ℕ → Ending) (v a J K : ℕ) (q : List ℕ) → v + a ≡ 16 → Follows d f g → Follows d g f
    → some_value jump i d f v a J ≡ solved q → some_value false i d g v a K ≡ solved q
unfolding some_value
some_follows jump i d f g zero a J K q z h k e = not-both J q e
some_follows jump i d f g (suc v) a J K q z h k e = go (bit d a) refl (f a) refl e (λ J K. some_follows jump i d f g v (suc a) J K q (omega arith) h k)
  where
    Rest : Type 0
    Rest = (J K : ℕ) → some_value jump i d f v (suc a) J ≡ solved q → some_value false i d g v (suc a) K ≡ solved q

    go : (b : Bool) → bit d a ≡ b → (r : Ending) → f a ≡ r
        → cond b (or_else r (λ S. cond (jump && not (bit S i)) (failed S) (some_value jump i d f v (suc a) (bit_or J S)))) (some_value jump i d f v (suc a) J) ≡ solved q → Rest
        → cond b (or_else (g a) (λ S. some_value false i d g v (suc a) (bit_or K S))) (some_value false i d g v (suc a) K) ≡ solved q
    go false m r re e ih = ih J K e
    go true m (solved r) re e ih = rw (h a (omega arith) (rw m tt) r re) e
    go true m (failed S) re e ih = lose (g a) refl
      where
        lose : (r : Ending) → g a ≡ r → or_else r (λ S. some_value false i d g v (suc a) (bit_or K S)) ≡ solved q
        lose (solved r) ge = not-both S r (sym re ∙ k a (omega arith) (rw m tt) r ge)
        lose (failed U) ge = goes_on (jump && not (bit S i)) e
          where
            goes_on : (b : Bool) → cond b (failed S) (some_value jump i d f v (suc a) (bit_or J S)) ≡ solved q → some_value false i d g v (suc a) (bit_or K U) ≡ solved q
            goes_on true e = not-both S q e
            goes_on false e = ih (bit_or J S) (bit_or K U) e

module _ (P : Problem) where
  open P use {n, universal}

  same_explained : (S U c : ℕ) (p l R : List ℕ) → Others S U → explained P S c p l R ≡ explained P U c p l R
  unfolding explained
  same_explained S U c p l R h = rw (h 1 (omega arith) (omega arith), h 2 (omega arith) (omega arith), h 3 (omega arith) (omega arith))

  same_check : (S U c : ℕ) (p l R : List ℕ) → Others S U → check_set P S c p l R ≡ check_set P U c p l R
  unfolding check_set
  same_check S U c p l R h = rw (h 2 (omega arith) (omega arith))

  same_narrow : (S U i : ℕ) (l : List ℕ) → Others S U → narrow_next P S i l ≡ narrow_next P U i l
  unfolding narrow_next
  same_narrow S U i l h = rw (h 4 (omega arith) (omega arith), h 5 (omega arith) (omega arith))

  -- The leaf of a turn from those of the turns below.
  inner_follows : (S U : ℕ) (p : List ℕ) (o : Step) (m : List ℕ) (f g : ℕ → Ending) (q r : List ℕ) → uses S 7 ≡ uses U 7
      → (o.loss ≡ false → Follows (get_or m (length p) 0) f g × Follows (get_or m (length p) 0) g f) → inner P U p o m g ≡ solved r → inner P S p o m f ≡ solved q → inner P U p o m g ≡ solved q
  unfolding inner
  inner_follows S U p o m f g q r seven h = go o.loss refl (universal (length p))
    where
      i : ℕ
      i = length p

      d : ℕ
      d = get_or m i 0

      J : ℕ
      J = start_set P o.why o.list m i

      go : (b : Bool) → o.loss ≡ b → (s : Bool)
          → cond b (failed o.set) (cond s (each_value (λ q a. uses U 7 && skippable P m i q a) g 16 0 d p) (some_value (uses U 6) i d g 16 0 J)) ≡ solved r
          → cond b (failed o.set) (cond s (each_value (λ q a. uses S 7 && skippable P m i q a) f 16 0 d p) (some_value (uses S 6) i d f 16 0 J)) ≡ solved q
          → cond b (failed o.set) (cond s (each_value (λ q a. uses U 7 && skippable P m i q a) g 16 0 d p) (some_value (uses U 6) i d g 16 0 J)) ≡ solved q
      go true x s er eq = not-both o.set q eq
      go false x true er eq = each_follows (λ q a. uses U 7 && skippable P m i q a) f g d 16 0 d p q refl (λ b _ t. t) (h x).0 (rw seven at eq)
      go false x false er eq =
          let a = some_follows (uses S 6) i d f g 16 0 J 0 q refl (h x).0 (h x).1 eq in
          let b = some_follows (uses U 6) i d g g 16 0 J 0 r refl (λ a l t q e. e) (λ a l t q e. e) er in
          er ∙ ap solved (one-leaf (some_value false i d g 16 0 0) r q b a)

  -- THE SAME LEAF.
  pub same_leaf : (k S U : ℕ) → Others S U → (c : ℕ) (p l R : List ℕ) → k + length p ≡ n → At P c p l R → (q : List ℕ) → search P S c k p l R ≡ solved q → search P U c k p l R ≡ solved q
  unfolding search inner
  same_leaf zero S U h c p l R z w q e =
      hand_up_in (uses U 6) (length p) (leaf P (explained P U c p l R).loss (check_set P U c p l R) p) q (rw (same_explained S U c p l R h, same_check S U c p l R h) at (hand_up_out (uses S 6) (length p) (leaf P (explained P S c p l R).loss (check_set P S c p l R) p) q e))
  same_leaf (suc k) S U h c p l R z w q e = go (same_leaf k S U h) (same_leaf k U S (λ k l ne. sym (h k l ne)))
    where
      i : ℕ
      i = length p

      o : Step
      o = explained P S c p l R

      m : List ℕ
      m = after P S c p l R

      d : ℕ
      d = get_or m i 0

      f : ℕ → Ending
      f = turn_below P S k p m o.why

      g : ℕ → Ending
      g = turn_below P U k p m o.why

      on_S : search P S c (suc k) p l R ≡ hand_up (uses S 6) i (inner P S p o m f)
      on_S = search-next P S c k p l R o m refl refl

      on_U : search P U c (suc k) p l R ≡ hand_up (uses U 6) i (inner P U p o m g)
      on_U = search-next P U c k p l R o m (sym (same_explained S U c p l R h)) (sym (ap {B = List ℕ} (λ r. r.list) (same_narrow S U i o.list h)))

      other : (r : List ℕ) × (search P U c (suc k) p l R ≡ solved r)
      other = leaf_of (search P U c (suc k) p l R) (Turns.answer P U c (suc k) p l R z w ∙ sym (Turns.answer P S c (suc k) p l R z w) ∙ ap is_solved e)

      go : ((c : ℕ) (p l R : List ℕ) → k + length p ≡ n → At P c p l R → (q : List ℕ) → search P S c k p l R ≡ solved q → search P U c k p l R ≡ solved q)
          → ((c : ℕ) (p l R : List ℕ) → k + length p ≡ n → At P c p l R → (q : List ℕ) → search P U c k p l R ≡ solved q → search P S c k p l R ≡ solved q) → search P U c (suc k) p l R ≡ solved q
      go ih hi = on_U ∙ hand_up_in (uses U 6) i (inner P U p o m g) q (inner_follows S U p o m f g q other.0 (h 7 (omega arith) (omega arith)) follows
          (hand_up_out (uses U 6) i (inner P U p o m g) other.0 (sym on_U ∙ other.1)) (hand_up_out (uses S 6) i (inner P S p o m f) q (sym on_S ∙ e)))
        where
          lp : length p < n
          lp = omega arith

          len : (a : ℕ) → k + length (p ++ (a ∷ [])) ≡ n
          len a = let s = snoc_length P p a in omega arith

          follows : (explained P S c p l R).loss ≡ false → Follows d f g × Follows d g f
          follows x =
              let on : (a : ℕ) → T (bit d a) → At P i (p ++ (a ∷ [])) (next_list P m i a) (next_reasons o.why i) = λ a t. Turns.at_after P S c p l R w lp x a (in_domain m i a t) in
              ((λ a _ t q e. ih i (p ++ (a ∷ [])) (next_list P m i a) (next_reasons o.why i) (len a) (on a t) q e), λ a _ t q e. hi i (p ++ (a ∷ [])) (next_list P m i a) (next_reasons o.why i) (len a) (on a t) q e)
