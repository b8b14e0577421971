-- The removals of specs/Passes.antt are rule 1's: on words that hold a list and its reasons they leave words that hold `revisions` of them.
use mathlib.Core.Path.{◌≡◌, refl, sym, ap, ap₂, subst, ◌∙◌}
use mathlib.Core.Bool.{Bool, true, false, cond, not, ◌&&◌, ◌||◌, or-false, and-true, or-true}
use mathlib.Core.Logic.{◌⊎◌, inl, inr}
use mathlib.Core.List.{List}
use Prim.Native.Nat.{ℕ, zero, suc, ◌*◌, ◌^◌, ◌≤◌, ◌<◌}
use native.Mathlib.Omega.{arith}
use lib.Dec.{T, eqb}
use lib.Bits.{bit_and, bit_or}
use lib.ListN.{get_or, length, set, get_or-eq_default}
use borrow.Author.Tests.{eq-eqb, ne_eqb, eqb-true}
use Rattle.mask.specs.Mask.{bit}
use Rattle.mask.proofs.Logic.{holds, fails, clash, true_holds, and_out, by_lt}
use Rattle.mask.proofs.Bits.{bit-bit_and, bit-bit_or, bit-diff, bit_single, bit_of_zero}
use Rattle.game.specs.Problem.{Problem}
use Rattle.game.specs.Reasons.{Sheet, loop, cause, surviving, revise, pass, revisions}
use Rattle.theory.specs.AnyOrder.{Formed}
use Rattle.solver_arrays.specs.Arrays.{States}
use Rattle.solver_arrays.specs.Words.{list_in, why_in, reason_in, put_reason, holding}
use Rattle.solver_arrays.proofs.WordLaws.{length-list_in, length-why_in, get_d_list_in, holding-domain, holding_reason, holding-own, set-domain, set_reason}
use Rattle.theory.proofs.Revisions.{revisions-loop}
use Rattle.rule_arc_passes.specs.Over.{over}
use Rattle.rule_arc_passes.proofs.Loops.{loop-from, loop_beside, over_longer, over_made}
use Rattle.rule_arc_passes.proofs.Revising.{Still, Revised, kept, cut, revised, revise_cases}
use Rattle.rule_arc_passes.proofs.Waiting.{looks, Sized, Ready, revise_sized, looks_sized, looks-over, looks_falls, looks-universal, ready_first, ready_look, ready_looked, ready_none, ready_next}
use Rattle.rule_arc_passes.specs.Passes.{leaves, cause_of, lessened, revise_in, look_from, lost_at, noted, Progress, progress, pass_in, passes_in, removed_in, Rests}
use Rattle.rule_arc_passes.proofs.Support.{surviving-leaves, cause_of_lem}
use Rattle.solver_arrays.specs.declared.arrays.Arrays.{Arrays}

-- The list and the reasons that words hold, and words with others in their places.
abbrev pub sheet_in : ℕ → List ℕ → Sheet
sheet_in n w = record { list = list_in n w; why = why_in n w }

abbrev pub holding_sheet : ℕ → List ℕ → Sheet → List ℕ
holding_sheet n w s = holding n w s.list s.why

-- A mask with x noted differs at x alone, and has x where it lost values.
pub noted_off : (dirty x : ℕ) (lost : Bool) (k : ℕ) → ¬ (k ≡ x) → bit (noted dirty x lost) k ≡ bit dirty k
unfolding noted
noted_off dirty x true k d = bit-bit_or dirty (2 ^ x) k ∙ rw (bit_single x k, ne_eqb k x d) (or-false (bit dirty k))
noted_off dirty x false k d = bit-diff dirty (2 ^ x) k ∙ rw (bit_single x k, ne_eqb k x d) (and-true (bit dirty k))

pub noted_on : (dirty x : ℕ) → T (bit (noted dirty x true) x)
unfolding noted
noted_on dirty x = true_holds (bit-bit_or dirty (2 ^ x) x ∙ rw (bit_single x x, eq-eqb x x refl) (or-true (bit dirty x)))

module _ (P : Problem) (A : Arrays) (st : States P P.n A) (w : List ℕ) (long : 96 ≤ length w) where
  open P use {n, constrained}

  -- The words w with a list and its reasons in their places.
  abbrev put : Sheet → List ℕ
  put s = holding n w s.list s.why

  module _ (s : Sheet) (z : Sized P s) where
    domain_at_lem : (x : ℕ) → x < n → get_or (put s) x 0 ≡ get_or s.list x 0
    domain_at_lem x lx = holding-domain n st.most w long s.list s.why x lx

    -- One revision.
    module _ (x k : ℕ) (lx : x < n) (lk : k < n) where
      mask_left : bit_and (get_or (put s) x 0) (leaves A x k (get_or (put s) k 0)) ≡ surviving P s.list x k
      mask_left = ap₂ (λ u v. bit_and u (leaves A x k v)) (domain_at_lem x lx) (domain_at_lem k lk) ∙ sym (surviving-leaves P n A st s.list x k lx lk (z.small x))

      lessened_is : lessened x (surviving P s.list x k) (cause_of A.universal x k (reason_in (put s) k)) (put s) ≡ put (revised P x k s)
      unfolding lessened
      lessened_is =
          let m = surviving P s.list x k in
          let c = cause P s.why x k in
          ap₂ (λ v q. put_reason v x (bit_or (reason_in v x) q)) (set-domain n st.most w long s.list s.why z.masks x m lx)
          (ap (cause_of A.universal x k) (holding_reason n st.most w long s.list s.why k lk) ∙ cause_of_lem P n A st s.why x k lk)
          ∙ ap (λ q. put_reason (holding n w (set s.list x m) s.why) x (bit_or q c)) (holding_reason n st.most w long (set s.list x m) s.why x lx)
          ∙ set_reason n st.most w long (set s.list x m) s.why z.reasons x (bit_or (get_or s.why x 0) c) lx

      revise_holds : T (not (P.universal x)) → T (constrained x k) → revise_in A x k (put s) ≡ put (revise P x k s)
      unfolding revise_in
      revise_holds u c =
          ap₂ (λ m v. cond (eqb m v) (put s) (lessened x m (cause_of A.universal x k (reason_in (put s) k)) (put s))) mask_left (domain_at_lem x lx)
          ∙ go (eqb (surviving P s.list x k) (get_or s.list x 0)) refl (revise P x k s) (revise_cases P x k s)
        where
          go : (b : Bool) → eqb (surviving P s.list x k) (get_or s.list x 0) ≡ b → (r : Sheet) → Revised P x k s r
              → cond b (put s) (lessened x (surviving P s.list x k) (cause_of A.universal x k (reason_in (put s) k)) (put s)) ≡ put r
          go true e r (kept h) = refl
          go true e r (cut _ _ d) = absurd (d (eqb-true (surviving P s.list x k) (get_or s.list x 0) e))
          go false e r (kept h) = absurd (clash e (true_holds (eq-eqb (surviving P s.list x k) (get_or s.list x 0) (h u c))))
          go false e r (cut _ _ d) = lessened_is

  -- The look of a variable.
  module _ (s : Sheet) (z : Sized P s) (all dirty x : ℕ) (lx : x < n) (ready : Ready P all dirty x s) where
    -- The neighbours to look at.
    abbrev look : ℕ
    look = bit_and (get_or A.near x 0) (bit_or dirty all)

    look-bit : (k : ℕ) → k < n → bit look k ≡ (constrained x k && (bit dirty k || bit all k))
    look-bit k lk = bit-bit_and (get_or A.near x 0) (bit_or dirty all) k ∙ rw (bit-bit_or dirty all k, st.joined x k lx lk)

    look_inside : (k : ℕ) → n ≤ k → bit look k ≡ false
    look_inside k l = bit-bit_and (get_or A.near x 0) (bit_or dirty all) k ∙ rw (st.inside x k lx l, bit_of_zero k)

    look_holds : look_from A (bit_or dirty all) x (put s) ≡ put (looks P x s)
    unfolding look_from
    look_holds = go (bit A.universal x) (st.side x lx)
      where
        f : ℕ → List ℕ → List ℕ
        f k = revise_in A x k

        go : (b : Bool) → P.universal x ≡ b → cond b (put s) (over look 32 f (put s)) ≡ put (looks P x s)
        go true u = ap put (sym (looks-universal P x lx u s))
        go false u =
            over_longer look n 32 st.most look_inside f (put s)
            ∙ over_made n (λ k. revise P x k) f put (Sized P) look (λ k t _ w. revise_sized P x lx k t w)
            (λ k t lk b w. revise_holds t w x k lx lk (rw u tt) (and_out (constrained x k) (bit dirty k || bit all k) (rw (look-bit k lk) at b)).0) s z
            ∙ ap put (sym (looks-over P x lx look s z (λ k lk e. ready_look P all dirty x s lx ready k lk (sym (look-bit k lk) ∙ e))))

  -- The words hold a list and its reasons, and the mask tells what waits at the look of x.
  record Agrees (all x : ℕ) (p : Progress) (s : Sheet) : Type 0 where
    pub held : p.words ≡ put s
    pub sized : Sized P s
    pub ready : Ready P all p.dirty x s

  look_agrees : (all x : ℕ) (p : Progress) (s : Sheet) → x < n → Agrees all x p s → Agrees all (suc x) (progress A all x p) (looks P x s)
  unfolding progress lost_at
  look_agrees all x p s lx a = record {
    held = now;
    sized = looks_sized P x lx s a.sized;
    ready = ready_looked P all p.dirty (noted p.dirty x (lost_at x p.words r)) x s lx a.sized a.ready (noted_off p.dirty x (lost_at x p.words r)) (told (looks_falls P x lx s a.sized));
  }
    where
      r : List ℕ
      r = look_from A (bit_or p.dirty all) x p.words

      now : r ≡ put (looks P x s)
      now = ap (look_from A (bit_or p.dirty all) x) a.held ∙ look_holds s a.sized all p.dirty x lx a.ready

      lost : get_or (looks P x s).list x 0 < get_or s.list x 0 → lost_at x p.words r ≡ true
      lost l = ap₂ (λ u v. not (eqb u v)) (ap (λ v. get_or v x 0) now ∙ domain_at_lem (looks P x s) (looks_sized P x lx s a.sized) x lx) (ap (λ v. get_or v x 0) a.held ∙ domain_at_lem s a.sized x lx)
          ∙ ap not (ne_eqb (get_or (looks P x s).list x 0) (get_or s.list x 0) (omega arith))

      told : (looks P x s ≡ s) ⊎ (get_or (looks P x s).list x 0 < get_or s.list x 0) → (looks P x s ≡ s) ⊎ T (bit (noted p.dirty x (lost_at x p.words r)) x)
      told (inl e) = inl e
      told (inr l) = inr (rw (lost l) (noted_on p.dirty x))

  pass_agrees : (all : ℕ) (p : Progress) (s : Sheet) → Agrees all 0 p s → Agrees 0 0 (pass_in A n all p) (pass P s)
  unfolding pass_in pass
  pass_agrees all p s a = next (loop_beside n (λ x. progress A all x) (looks P) (Agrees all) (λ x p s l a. look_agrees all x p s l a) n 0 (omega arith) p s a)
    where
      next : {p : Progress} {s : Sheet} → Agrees all n p s → Agrees 0 0 p s
      next {p = p} {s = s} a = record { held = a.held; sized = a.sized; ready = ready_next P all p.dirty s a.ready }

  -- Passes until nothing waits are as many passes as one likes.
  passes_hold : (v all : ℕ) (p : Progress) (s : Sheet) → (p.dirty ≡ 0 → all ≡ 0) → Agrees all 0 p s → (passes_in A n v all p).words ≡ put (loop v 0 (λ _. pass P) s)
  unfolding passes_in loop
  passes_hold zero all p s q a = a.held
  passes_hold (suc v) all p s q a =
      go (eqb p.dirty 0) refl (passes_hold v 0 (pass_in A n all p) (pass P s) (λ _. refl) (pass_agrees all p s a) ∙ ap put (loop-from (pass P) v 0 1 (pass P s)))
    where
      go : (b : Bool) → eqb p.dirty 0 ≡ b → (passes_in A n v 0 (pass_in A n all p)).words ≡ put (loop v 1 (λ _. pass P) (pass P s))
          → (cond b p (passes_in A n v 0 (pass_in A n all p))).words ≡ put (loop v 1 (λ _. pass P) (pass P s))
      go true e h =
          let z = eqb-true p.dirty 0 e in
          a.held ∙ ap put (sym (ready_none P (suc v) 0 s (subst (λ d. Ready P 0 d 0 s) z (subst (λ b. Ready P b p.dirty 0 s) (q z) a.ready))))
      go false e h = h

-- Words of 16 bits hold masks of 16 bits.
pub sheet_sized : (P : Problem) (w : List ℕ) → ((k : ℕ) → get_or w k 0 < 65536) → Sized P (sheet_in P.n w)
sheet_sized P w small = record {
  masks = length-list_in P.n w;
  small = λ i. by_lt i P.n (λ l. rw (get_d_list_in P.n w i l) (small i)) (λ l. let e = length-list_in P.n w in rw (get_or-eq_default (list_in P.n w) 0 {n = i} (omega arith)) (omega arith));
  reasons = length-why_in P.n w;
}

-- On the words of a turn the code's removals are those of the definition, where nothing dies because of a variable outside the mask changed.
module _ (P : Problem) (A : Arrays) (w : List ℕ) (long : 96 ≤ length w) (small : (k : ℕ) → get_or w k 0 < 65536) (changed : ℕ) where
  abbrev Goal : ℕ → Type 0
  Goal n = States P n A → ((x k : ℕ) → x < n → k < n → bit changed k ≡ false → T (bit (get_or A.near x 0) k) → Rests A w x k)
      → removed_in A n changed w ≡ holding_sheet n w (revisions P (sheet_in n w))

  formed : Sized P (sheet_in P.n w) → Formed P (sheet_in P.n w)
  formed z = record { masks = record { size = z.masks; small = z.small }; sized = z.reasons }

  own : Goal P.n
  unfolding removed_in
  own st rests =
      ap (λ v. (passes_in A n (16 * n) changed (record { dirty = changed; words = v })).words) (sym held)
      ∙ passes_hold P A st w long (16 * n) changed (record { dirty = changed; words = put P A st w long s }) s (λ e. e)
      (record { held = refl; sized = z; ready = ready_first P changed changed s still })
      ∙ ap (holding_sheet n w) (sym (revisions-loop P s (formed z)))
    where
      n : ℕ
      n = P.n

      s : Sheet
      s = sheet_in n w

      z : Sized P s
      z = sheet_sized P w small

      held : holding n w s.list s.why ≡ w
      held = holding-own n st.most w long small

      still : (x k : ℕ) → x < n → k < n → bit changed k ≡ false → Still P s.list x k
      still x k lx lk f u c =
          surviving-leaves P n A st (list_in n w) x k lx lk (z.small x)
          ∙ ap₂ (λ u v. bit_and u (leaves A x k v)) (get_d_list_in n w x lx) (get_d_list_in n w k lk)
          ∙ rests x k lx lk f (rw (st.joined x k lx lk) at c) (fails {b = bit A.universal x} λ t. clash (ap not (st.side x lx ∙ holds {b = bit A.universal x} t)) u) ∙ sym (get_d_list_in n w x lx)

  pub removals : (n : ℕ) → Goal n
  removals n st rests = subst Goal st.size own st rests
