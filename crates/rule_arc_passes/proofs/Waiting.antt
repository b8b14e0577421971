-- Rule 1's passes with most looks left out. Between two looks of a variable y it need look again only at the neighbours that lost values
-- meanwhile. One mask tells: at the look of x its members below x lost values in this pass, the others in the pass before.
use mathlib.Core.Path.{◌≡◌, refl, sym, ap, ◌∙◌}
use mathlib.Core.Bool.{Bool, true, false, cond, not, ◌&&◌, ◌||◌}
use mathlib.Core.Logic.{◌⊎◌, inl, inr}
use mathlib.Core.List.{List}
use Prim.Native.Nat.{ℕ, zero, suc, ◌*◌, ◌≤◌, ◌<◌}
use native.Mathlib.Omega.{arith}
use lib.Dec.{T}
use lib.ListN.{get_or, length}
use lib.Seq.{get_or-set_other}
use Rattle.mask.specs.Mask.{bit}
use Rattle.mask.proofs.Logic.{clash, test, and_in, or_left, or_right, by_eq, by_lt}
use Rattle.mask.proofs.Bits.{bit_of_zero}
use Rattle.game.specs.Problem.{Problem}
use Rattle.game.specs.Reasons.{Sheet, loop, surviving, revise, pass, same_domains, passes, revisions}
use Rattle.rule_arc_passes.specs.Over.{over}
use Rattle.rule_arc_passes.proofs.Revising.{Still, Revised, kept, cut, revise_cases, still_same, still_own, still_other, revise_falls, revise_long, revise_small}
use Rattle.rule_arc_passes.proofs.Loops.{loop-idle, loop_keeps, loop_reaches, over-loop}

-- At the look of x variable y has still to look at k: it has not looked at all and k is one of those to be looked at; or k has lost
-- values since y looked, which is in this pass after y's look, or since the look of y in the pass before.
pub data Waits (all dirty x y k : ℕ) : Type 0 where
  fresh : x ≤ y → T (bit all k) → Waits all dirty x y k
  passed : T (bit dirty k) → y < k → k < x → Waits all dirty x y k
  above : T (bit dirty k) → x ≤ y → y < k → Waits all dirty x y k
  below : T (bit dirty k) → x ≤ y → k < x → Waits all dirty x y k

module _ (P : Problem) where
  open P use {n, universal, constrained, apart}

  -- All revisions of x once.
  abbrev pub looks : ℕ → Sheet → Sheet
  looks x = loop n 0 (λ k. revise P x k)

  -- n masks of 16 bits, and n reasons.
  pub record Sized (s : Sheet) : Type 0 where
    pub masks : length s.list ≡ n
    pub small : (i : ℕ) → get_or s.list i 0 < 65536
    pub reasons : length s.why ≡ n

  -- The looks of x ------------------------------------------------------------------------------------------------------------
  module _ (x : ℕ) (lx : x < n) where
    pub revise_sized : (k : ℕ) (s : Sheet) → Sized s → Sized (revise P x k s)
    revise_sized k s w = let r = revise_long P x k s in record { masks = r.0 ∙ w.masks; small = revise_small P x k s w.small; reasons = r.1 ∙ w.reasons }

    inside : (s : Sheet) → Sized s → x < length s.list
    inside s w = let e = w.masks in omega arith

    pub looks_sized : (s : Sheet) → Sized s → Sized (looks x s)
    looks_sized s w = loop_keeps n (λ k. revise P x k) Sized (λ k s _ w. revise_sized k s w) n 0 (omega arith) s w

    -- What no value of y dies of stays so, but for x.
    looks_other : (s : Sheet) → Sized s → (y k : ℕ) → ¬ (k ≡ x) → Still P s.list y k → Still P (looks x s).list y k
    looks_other s w y k d h =
        (loop_keeps n (λ j. revise P x j) (λ t. Sized t × Still P t.list y k)
        (λ j t _ q. (revise_sized j t q.0, still_other P y k x j t (inside t q.0) d q.1)) n 0 (omega arith) s (w, h)).1

    own_still : (l : List ℕ) → Still P l x x
    own_still l _ c = absurd (apart x x c refl)

    other_still : (k j : ℕ) (s : Sheet) → Sized s → Still P s.list x k → Still P (revise P x j s).list x k
    other_still k j s w h = by_eq k x (λ e. rw e (own_still (revise P x j s).list)) (λ e. still_other P x k x j s (inside s w) e h)

    -- After it no value of x dies.
    looks_rests : (s : Sheet) → Sized s → (k : ℕ) → k < n → Still P (looks x s).list x k
    looks_rests s w =
        loop_reaches n (λ j. revise P x j) Sized (λ j s _ w. revise_sized j s w) (λ k s. Still P s.list x k)
        (λ j s _ w. still_own P x j s (inside s w)) (λ k j s _ w h. other_still k j s w h) n 0 (omega arith) s w (λ i l. absurd (omega arith))

    -- It may leave out those of which no value dies.
    pub looks-over : (m : ℕ) (s : Sheet) → Sized s → ((k : ℕ) → k < n → bit m k ≡ false → Still P s.list x k) → looks x s ≡ over m n (λ k. revise P x k) s
    looks-over m s w h =
        over-loop n (λ j. revise P x j) (λ t. Sized t × ((k : ℕ) → k < n → bit m k ≡ false → Still P t.list x k))
        (λ j t _ q. (revise_sized j t q.0, λ k l e. other_still k j t q.0 (q.1 k l e)))
        m (λ k t l q e. still_same P x k t (q.1 k l e)) s (w, h)

    -- It leaves all as it is, or the number of the mask of x falls.
    pub looks_falls : (s : Sheet) → Sized s → (looks x s ≡ s) ⊎ (get_or (looks x s).list x 0 < get_or s.list x 0)
    unfolding loop
    looks_falls = go n 0
      where
        go : (v a : ℕ) (s : Sheet) → Sized s → (loop v a (λ k. revise P x k) s ≡ s) ⊎ (get_or (loop v a (λ k. revise P x k) s).list x 0 < get_or s.list x 0)
        go zero a s w = inl refl
        go (suc v) a s w = meet (revise P x a s) (revise_sized a s w) (revise_falls P x a s (inside s w) (w.small x)) (go v (suc a))
          where
            meet : (r : Sheet) → Sized r → (r ≡ s) ⊎ (get_or r.list x 0 < get_or s.list x 0)
                → ((s : Sheet) → Sized s → (loop v (suc a) (λ k. revise P x k) s ≡ s) ⊎ (get_or (loop v (suc a) (λ k. revise P x k) s).list x 0 < get_or s.list x 0))
                → (loop v (suc a) (λ k. revise P x k) r ≡ s) ⊎ (get_or (loop v (suc a) (λ k. revise P x k) r).list x 0 < get_or s.list x 0)
            meet r q (inl e) ih = rw e (ih s w)
            meet r q (inr l) ih = fall (ih r q)
              where
                fall : (loop v (suc a) (λ k. revise P x k) r ≡ r) ⊎ (get_or (loop v (suc a) (λ k. revise P x k) r).list x 0 < get_or r.list x 0)
                    → (loop v (suc a) (λ k. revise P x k) r ≡ s) ⊎ (get_or (loop v (suc a) (λ k. revise P x k) r).list x 0 < get_or s.list x 0)
                fall (inl e) = inr (rw e l)
                fall (inr m) = inr (omega arith)

    pub looks-universal : universal x ≡ true → (s : Sheet) → looks x s ≡ s
    looks-universal u s = loop-idle (λ k. revise P x k) n 0 s (λ k _ _. still_same P x k s (λ t _. absurd (rw u at t)))

  -- A pass -----------------------------------------------------------------------------------------------------------------
  -- At the look of x: no value of y dies because of k, or y has still to look at k.
  abbrev pub Ready : ℕ → ℕ → ℕ → Sheet → Type 0
  Ready all dirty x s = (y k : ℕ) → y < n → k < n → Still P s.list y k ⊎ Waits all dirty x y k

  -- At first every variable has still to look at those of a mask: of the others nothing dies.
  pub ready_first : (all dirty : ℕ) (s : Sheet) → ((y k : ℕ) → y < n → k < n → bit all k ≡ false → Still P s.list y k) → Ready all dirty 0 s
  ready_first all dirty s h y k ly lk = test (bit all k) (λ t. inr (fresh (omega arith) t)) (λ f. inl (h y k ly lk f))

  -- The neighbours to look at in the look of x are in these masks.
  pub ready_look : (all dirty x : ℕ) (s : Sheet) → x < n → Ready all dirty x s → (k : ℕ) → k < n → (constrained x k && (bit dirty k || bit all k)) ≡ false → Still P s.list x k
  ready_look all dirty x s lx r k lk e u c = go (r x k lx lk) u c
    where
      no : T (bit dirty k || bit all k) → ⊥
      no t = clash e (and_in (constrained x k) (bit dirty k || bit all k) c t)

      go : Still P s.list x k ⊎ Waits all dirty x x k → Still P s.list x k
      go (inl h) = h
      go (inr (fresh _ t)) = absurd (no (or_right (bit dirty k) (bit all k) t))
      go (inr (passed t _ _)) = absurd (no (or_left (bit dirty k) (bit all k) t))
      go (inr (above t _ _)) = absurd (no (or_left (bit dirty k) (bit all k) t))
      go (inr (below t _ _)) = absurd (no (or_left (bit dirty k) (bit all k) t))

  -- After the look of x, where the mask tells whether x lost values.
  pub ready_looked : (all dirty dirty' x : ℕ) (s : Sheet) → x < n → Sized s → Ready all dirty x s
      → ((k : ℕ) → ¬ (k ≡ x) → bit dirty' k ≡ bit dirty k) → (looks x s ≡ s) ⊎ T (bit dirty' x) → Ready all dirty' (suc x) (looks x s)
  ready_looked all dirty dirty' x s lx w r off on y k ly lk =
      by_eq y x (λ e. inl (rw e (looks_rests x lx s w k lk)))
      (λ e. by_eq k x (λ z. rw z (met y e (r y x ly lx) on)) (λ z. far y k e z (r y k ly lk)))
    where
      far : (y k : ℕ) → ¬ (y ≡ x) → ¬ (k ≡ x) → Still P s.list y k ⊎ Waits all dirty x y k → Still P (looks x s).list y k ⊎ Waits all dirty' (suc x) y k
      far y k e z (inl h) = inl (looks_other x lx s w y k z h)
      far y k e z (inr (fresh l t)) = inr (fresh (omega arith) t)
      far y k e z (inr (passed t l m)) = inr (passed (rw (off k z) t) l (omega arith))
      far y k e z (inr (above t l m)) = inr (above (rw (off k z) t) (omega arith) m)
      far y k e z (inr (below t l m)) = inr (below (rw (off k z) t) (omega arith) (omega arith))

      same : (y : ℕ) → Still P s.list y x ⊎ Waits all dirty x y x → ¬ (y ≡ x) → looks x s ≡ s → Still P (looks x s).list y x ⊎ Waits all dirty' (suc x) y x
      same y (inl h) d e = inl (rw e h)
      same y (inr (fresh l t)) d e = inr (fresh (omega arith) t)
      same y (inr (passed t l m)) d e = absurd (omega arith)
      same y (inr (above t l m)) d e = absurd (omega arith)
      same y (inr (below t l m)) d e = absurd (omega arith)

      met : (y : ℕ) → ¬ (y ≡ x) → Still P s.list y x ⊎ Waits all dirty x y x → (looks x s ≡ s) ⊎ T (bit dirty' x) → Still P (looks x s).list y x ⊎ Waits all dirty' (suc x) y x
      met y d h (inl e) = same y h d e
      met y d h (inr t) = by_lt y x (λ l. inr (passed t l (omega arith))) (λ l. inr (below t (omega arith) (omega arith)))

  -- The end of a pass is the start of the next.
  pub ready_next : (all dirty : ℕ) (s : Sheet) → Ready all dirty n s → Ready 0 dirty 0 s
  ready_next all dirty s r y k ly lk = go (r y k ly lk)
    where
      go : Still P s.list y k ⊎ Waits all dirty n y k → Still P s.list y k ⊎ Waits 0 dirty 0 y k
      go (inl h) = inl h
      go (inr (fresh l t)) = absurd (omega arith)
      go (inr (passed t l m)) = inr (above t (omega arith) l)
      go (inr (above t l m)) = absurd (omega arith)
      go (inr (below t l m)) = absurd (omega arith)

  -- Passes -----------------------------------------------------------------------------------------------------------------
  pass_sized : (s : Sheet) → Sized s → Sized (pass P s)
  unfolding pass
  pass_sized s w = loop_keeps n looks Sized (λ x s l w. looks_sized x l s w) n 0 (omega arith) s w

  passes_sized : (v : ℕ) (s : Sheet) → Sized s → Sized (passes P v s)
  unfolding passes
  passes_sized zero s w = w
  passes_sized (suc v) s w = go (same_domains P (pass P s).list s.list) (pass_sized s w) (passes_sized v (pass P s) (pass_sized s w))
    where
      go : (b : Bool) → Sized (pass P s) → Sized (passes P v (pass P s)) → Sized (cond b (pass P s) (passes P v (pass P s)))
      go true h k = h
      go false h k = k

  pub revisions_sized : (s : Sheet) → Sized s → Sized (revisions P s)
  unfolding revisions
  revisions_sized s w = passes_sized (16 * n) s w

  -- Where nothing waits, further passes leave all as it is.
  pub ready_none : (v a : ℕ) (s : Sheet) → Ready 0 0 0 s → loop v a (λ _. pass P) s ≡ s
  unfolding pass
  ready_none v a s r = loop-idle (λ _. pass P) v a s (λ _ _ _. loop-idle looks n 0 s (λ y _ ly. loop-idle (λ k. revise P y k) n 0 s (λ k _ lk. still_same P y k s (go y k (r y k (omega arith) (omega arith))))))
    where
      go : (y k : ℕ) → Still P s.list y k ⊎ Waits 0 0 0 y k → Still P s.list y k
      go y k (inl h) = h
      go y k (inr (fresh l t)) = absurd (clash (bit_of_zero k) t)
      go y k (inr (passed t l m)) = absurd (clash (bit_of_zero k) t)
      go y k (inr (above t l m)) = absurd (clash (bit_of_zero k) t)
      go y k (inr (below t l m)) = absurd (clash (bit_of_zero k) t)

  -- Revisions keep the mask of a universal variable.
  module _ (j : ℕ) (u : universal j ≡ true) where
    revise_keeps : (x k : ℕ) (s : Sheet) → get_or (revise P x k s).list j 0 ≡ get_or s.list j 0
    revise_keeps x k s = go (revise P x k s) (revise_cases P x k s)
      where
        go : (r : Sheet) → Revised P x k s r → get_or r.list j 0 ≡ get_or s.list j 0
        go r (kept h) = refl
        go r (cut t c z) = get_or-set_other s.list x j (surviving P s.list x k) 0 (λ e. clash (ap not (ap universal (sym e) ∙ u)) t)

    pass_keeps : (s : Sheet) → get_or (pass P s).list j 0 ≡ get_or s.list j 0
    unfolding pass
    pass_keeps s = loop_keeps n looks Kept (λ x t _ g. loop_keeps n (λ k. revise P x k) Kept (λ k t _ g. revise_keeps x k t ∙ g) n 0 (omega arith) t g) n 0 (omega arith) s refl
      where
        Kept : Sheet → Type 0
        Kept t = get_or t.list j 0 ≡ get_or s.list j 0

    passes-keep : (v : ℕ) (s : Sheet) → get_or (passes P v s).list j 0 ≡ get_or s.list j 0
    unfolding passes
    passes-keep zero s = refl
    passes-keep (suc v) s = go (same_domains P (pass P s).list s.list) (pass_keeps s) (passes-keep v (pass P s) ∙ pass_keeps s)
      where
        go : (b : Bool) → get_or (pass P s).list j 0 ≡ get_or s.list j 0 → get_or (passes P v (pass P s)).list j 0 ≡ get_or s.list j 0
            → get_or (cond b (pass P s) (passes P v (pass P s))).list j 0 ≡ get_or s.list j 0
        go true h k = h
        go false h k = k

    pub revisions-keep : (s : Sheet) → get_or (revisions P s).list j 0 ≡ get_or s.list j 0
    unfolding revisions
    revisions-keep s = passes-keep (16 * n) s
