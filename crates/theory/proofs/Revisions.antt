-- Arc revisions with reasons, in any order: they keep the verdict and the reasons' invariant, and where they leave no dead value
-- their list is rule 1's. The order that the search uses is one instance.
use mathlib.Core.Path.{◌≡◌, refl, sym, ap, ◌∙◌}
use mathlib.Core.Bool.{Bool, true, false, cond, not, ◌&&◌}
use mathlib.Core.Logic.{◌⊎◌, inl, inr}
use mathlib.Core.List.{List}
use Prim.Native.Nat.{ℕ, zero, suc, ◌+◌, ◌*◌, ◌^◌, ◌≤◌, ◌<◌}
use native.Mathlib.Omega.{arith}
use lib.Dec.{T, T_not, not_T, eqb, eqb→eq, eqb_refl, ltb}
use lib.Bits.{bit_or}
use lib.ListN.{get_or, length, set, length-set}
use lib.Seq.{ext_get_or}
use borrow.Author.Tests.{ltb-true, ne_eqb}
use Rattle.mask.specs.Range.{some}
use Rattle.mask.specs.Mask.{bit, mask_of}
use Rattle.mask.proofs.Logic.{same, fails, clash, test, by_eq, and_in, and_out}
use Rattle.mask.proofs.Range.{each_out, each_in, some_out, some_in}
use Rattle.mask.proofs.Bits.{bit_single, bit_ext}
use Rattle.mask.proofs.Masks.{mask_of_lt, bit-mask_of}
use Rattle.game.specs.Problem.{Problem}
use Rattle.game.specs.Game.{Domains, Play, replace}
use Rattle.game.specs.Support.{clashes, alone}
use Rattle.game.specs.Arc.{dead, arc}
use Rattle.game.specs.Lists.{domains, Masks}
use Rattle.game.specs.Reasons.{Sheet, loop, kills, cause, surviving, revise, pass, same_domains, passes, revisions}
use Rattle.theory.specs.AnyOrder.{Formed, Revision, Revisions, none, one}
use Rattle.theory.proofs.Transfer.{In}
use Rattle.theory.proofs.Laws.{Answers}
use Rattle.theory.proofs.Arc
use Rattle.theory.proofs.Arc.{Toward, Part, Closed}
use Rattle.theory.proofs.Closure
use Rattle.theory.proofs.Closure.{size}
use Rattle.theory.proofs.Moves.{replace_at, replace_off}
use Rattle.theory.proofs.Lists.{masks_set, domains_mask, domains_boxed}
use Rattle.theory.proofs.OnLists
use Rattle.theory.proofs.OnLists.{masks_ext}
use Rattle.theory.proofs.ReasonLists.{in_left, in_right, reason_at, reason_off}
use Rattle.theory.proofs.Reasons
use Rattle.theory.proofs.Reasons.{Told}

-- What each step of a loop keeps, the loop keeps.
pub loop_keeps : {A : Type 0} (Q : A → Type 0) (v a n : ℕ) (f : ℕ → A → A) → v + a ≡ n → ((j : ℕ) (s : A) → j < n → Q s → Q (f j s)) → (s : A) → Q s → Q (loop v a f s)
unfolding loop
loop_keeps Q zero a n f e h s k = k
loop_keeps Q (suc v) a n f e h s k = loop_keeps Q v (suc a) n f (omega arith) h (f a s) (h a s (omega arith) k)

-- f leaves s as it is, and then Q; or the measure falls.
abbrev Falls : {A : Type 0} → (A → ℕ) → Type 0 → A → A → Type 0
Falls m Q s r = (Q × (r ≡ s)) ⊎ (m r < m s)

loop_falls : {A : Type 0} (m : A → ℕ) (G : A → Type 0) (Q : ℕ → A → Type 0) (n : ℕ) (f : ℕ → A → A)
    → ((j : ℕ) (s : A) → j < n → G s → Falls m (Q j s) s (f j s)) → ((j : ℕ) (s : A) → j < n → G s → G (f j s))
    → (v a : ℕ) → v + a ≡ n → (s : A) → G s → Falls m ((j : ℕ) → a ≤ j → j < n → Q j s) s (loop v a f s)
unfolding loop
loop_falls {A = A} m G Q n f h keep zero a e s g = inl ((λ j g l. absurd (omega arith)), refl)
loop_falls {A = A} m G Q n f h keep (suc v) a e s g = go (f a s) (keep a s (omega arith) g) (h a s (omega arith) g) (loop_falls m G Q n f h keep v (suc a) (omega arith))
  where
    up : Q a s → Falls m ((j : ℕ) → suc a ≤ j → j < n → Q j s) s (loop v (suc a) f s) → Falls m ((j : ℕ) → a ≤ j → j < n → Q j s) s (loop v (suc a) f s)
    up q (inl r) = inl ((λ j g l. by_eq j a (λ e. rw e q) (λ e. r.0 j (omega arith) l)), r.1)
    up q (inr r) = inr r

    down : (r : A) → m r < m s → Falls m ((j : ℕ) → suc a ≤ j → j < n → Q j r) r (loop v (suc a) f r) → m (loop v (suc a) f r) < m s
    down r l (inl k) = rw k.1 l
    down r l (inr k) = omega (arith, l, k)

    go : (r : A) → G r → Falls m (Q a s) s r → ((s : A) → G s → Falls m ((j : ℕ) → suc a ≤ j → j < n → Q j s) s (loop v (suc a) f s)) → Falls m ((j : ℕ) → a ≤ j → j < n → Q j s) s (loop v (suc a) f r)
    go r w (inl k) ih = rw k.1 (up k.0 (ih s g))
    go r w (inr k) ih = inr (down r k (ih r w))

module _ (P : Problem) where
  open P use {n, universal, compatible, constrained, apart}

  pub revisions_formed : (s t : Sheet) → Formed P s → Revisions P s t → Formed P t
  revisions_formed s t w none = w
  revisions_formed s t w (one rs r) = r.formed

  surviving_small : (l : List ℕ) (x k : ℕ) → surviving P l x k < 65536
  unfolding surviving
  surviving_small l x k = mask_of_lt 16 (λ a. domains l x a && not (kills P (domains l) x a k))

  -- What `revise` leaves of the list.
  revised-list : (x k : ℕ) (s : Sheet) → x < n → Formed P s → (j a : ℕ)
      → domains (set s.list x (surviving P s.list x k)) j a ≡ replace (domains s.list) x (λ a. domains s.list x a && not (kills P (domains s.list) x a k)) j a
  unfolding surviving
  revised-list x k s lx w j a = ap (λ (D : Domains). D j a) (domains_mask n s.list x (λ a. domains s.list x a && not (kills P (domains s.list) x a k)) lx
      (λ a t. (domains_boxed n s.list w.masks x a (and_out (domains s.list x a) (not (kills P (domains s.list) x a k)) t).0).1) w.masks)

  -- `revise` is a revision, unless it leaves all as it is.
  revise_is : (x k : ℕ) (s : Sheet) → x < n → k < n → Formed P s → (revise P x k s ≡ s) ⊎ Revision P s (revise P x k s)
  unfolding revise domains
  revise_is x k s lx lk w = go (not (universal x) && (constrained x k && not (eqb (surviving P s.list x k) (get_or s.list x 0)))) refl
    where
      L : List ℕ
      L = set s.list x (surviving P s.list x k)

      u : ℕ
      u = bit_or (get_or s.why x 0) (cause P s.why x k)

      at : (a : ℕ) → domains L x a ≡ (domains s.list x a && not (kills P (domains s.list) x a k))
      at a = revised-list x k s lx w x a ∙ ap (λ (m : ℕ → Bool). m a) (replace_at (domains s.list) x (λ a. domains s.list x a && not (kills P (domains s.list) x a k)))

      off : (j a : ℕ) → ¬ (j ≡ x) → domains L j a ≡ domains s.list j a
      off j a e = revised-list x k s lx w j a ∙ ap (λ (m : ℕ → Bool). m a) (replace_off (domains s.list) x (λ a. domains s.list x a && not (kills P (domains s.list) x a k)) j e)

      long : x < length s.why
      long = let e = w.sized in omega arith

      go : (b : Bool) → (not (universal x) && (constrained x k && not (eqb (surviving P s.list x k) (get_or s.list x 0)))) ≡ b
          → (cond b (record { list = L; why = set s.why x u }) s ≡ s) ⊎ Revision P s (cond b (record { list = L; why = set s.why x u }) s)
      go false e = inl refl
      go true e =
          let c = and_out (not (universal x)) (constrained x k && not (eqb (surviving P s.list x k) (get_or s.list x 0))) (rw e tt) in
          inr (record {
            x = x;
            k = k;
            x_in = lx;
            k_in = lk;
            existential = fails (T_not (universal x) c.0);
            near = (and_out (constrained x k) (not (eqb (surviving P s.list x k) (get_or s.list x 0))) c.1).0;
            formed = record { masks = masks_set n s.list x (surviving P s.list x k) lx (surviving_small s.list x k) w.masks; sized = length-set s.why x u ∙ w.sized };
            less = λ j a t. by_eq j x (λ z. rw z (and_out (domains s.list x a) (not (kills P (domains s.list) x a k)) (rw (z, at a) at t)).0) (λ z. rw (off j a z) at t);
            dies = λ j a t z. by_eq j x
                (λ y. (y, test (kills P (domains s.list) x a k) (λ t. t) (λ q. absurd (clash z (rw (y, at a) (and_in (domains s.list x a) (not (kills P (domains s.list) x a k)) (rw y at t) (rw q tt)))))))
                (λ y. absurd (clash z (rw (off j a y) t)));
            more = λ j l t. by_eq j x (λ z. rw (z, reason_at s.why x u l long) (in_left (get_or s.why x 0) (cause P s.why x k) l (rw z at t))) (λ z. rw (reason_off s.why x u j l z) t);
            blamed = λ l t. rw (reason_at s.why x u l long) (in_right (get_or s.why x 0) (cause P s.why x k) l t);
          })

  -- The search's order is a sequence of revisions.
  pass_is : (s t : Sheet) → Formed P s → Revisions P s t → Revisions P s (pass P t)
  unfolding pass
  pass_is s t w h =
      loop_keeps (Revisions P s) n 0 n (λ x. loop n 0 (λ k. revise P x k)) (omega arith)
      (λ x t lx h. loop_keeps (Revisions P s) n 0 n (λ k. revise P x k) (omega arith) (λ k t lk h. more x k t lx lk h (revise_is x k t lx lk (revisions_formed s t w h))) t h) t h
    where
      more : (x k : ℕ) (t : Sheet) → x < n → k < n → Revisions P s t → (revise P x k t ≡ t) ⊎ Revision P t (revise P x k t) → Revisions P s (revise P x k t)
      more x k t lx lk h (inl e) = rw e h
      more x k t lx lk h (inr r) = one h r

  passes_are : (v : ℕ) (s t : Sheet) → Formed P s → Revisions P s t → Revisions P s (passes P v t)
  unfolding passes
  passes_are zero s t w h = h
  passes_are (suc v) s t w h = go (same_domains P (pass P t).list t.list) (pass_is s t w h) (passes_are v s (pass P t) w)
    where
      go : (b : Bool) → Revisions P s (pass P t) → (Revisions P s (pass P t) → Revisions P s (passes P v (pass P t))) → Revisions P s (cond b (pass P t) (passes P v (pass P t)))
      go true k ih = k
      go false k ih = ih k

  pub revisions_are : (s : Sheet) → Formed P s → Revisions P s (revisions P s)
  unfolding revisions
  revisions_are s w = passes_are (16 * n) s s w none

  -- What dies because of k depends on the domain of k alone.
  pub kills_local : (D E : Domains) (x a k : ℕ) → D k ≡ E k → kills P D x a k ≡ kills P E x a k
  unfolding kills clashes alone
  kills_local D E x a k e = rw e

  -- The verdict ----------------------------------------------------------------------------------------------------------
  module _ (D : Domains) (v : Play) (f : Answers P D v) where
    pub toward_answers : (E : Domains) → Toward P D E → Answers P E v
    toward_answers E h j l z = ((f j l z).0, h.part.keep j (v j) z (f j l z).1)

    revision_part : (s t : Sheet) → Revision P s t → Part P (domains s.list) (domains t.list)
    revision_part s t r = record {
      sub = r.less;
      keep = λ j a z m. test (domains t.list j a) (λ u. u) (λ e. absurd (clash r.existential (rw (← (r.dies j a m e).0, z) tt)));
    }

    revision_died : (s t : Sheet) → Revision P s t → (j : ℕ) → j < n → universal j ≡ false → (a : ℕ) → In (domains s.list j) a → domains t.list j a ≡ false → T (dead P (domains s.list) j a)
    unfolding dead kills
    revision_died s t r j l z a m e =
        let g = r.dies j a m.1 e in
        rw g.0 (some_in n (constrained r.x) (λ y. cond (universal y && ltb r.x y) (clashes P (domains s.list) r.x a y) (alone P (domains s.list) r.x a y)) r.k r.k_in r.near g.1)

    pub revisions_toward : (s t : Sheet) → Revisions P s t → Toward P D (domains s.list) → Toward P D (domains t.list)
    revisions_toward s t none h = h
    revisions_toward s t (one {t = u} rs r) h =
        Arc.toward_step P D (domains u.list) (domains t.list) v f (revisions_toward s u rs h) (revision_part u t r) (revision_died u t r)

  -- The reasons ----------------------------------------------------------------------------------------------------------
  cause-own : (R : List ℕ) (x k l : ℕ) → T (domains R k l) → T (bit (cause P R x k) l)
  unfolding cause domains
  cause-own R x k l t = go (universal k && ltb x k)
    where
      go : (b : Bool) → T (bit (cond b (bit_or (get_or R k 0) (2 ^ x)) (get_or R k 0)) l)
      go true = in_left (get_or R k 0) (2 ^ x) l t
      go false = t

  cause_self : (R : List ℕ) (x k : ℕ) → universal k ≡ true → ltb x k ≡ true → T (bit (cause P R x k) x)
  unfolding cause
  cause_self R x k s h = rw (s, h) (in_right (get_or R k 0) (2 ^ x) x (rw (bit_single x x) (eqb_refl x)))

  module _ (F : Domains) (foe : Play) (foe_in : Answers P F foe) (i : ℕ) (p : Play) (li : i ≤ n) (D : Domains) (v : Play) (f : Answers P D v) where
    abbrev Ok : Sheet → Type 0
    Ok s = Told P F foe foe_in i p (domains s.list) (domains s.why)

    revision_told : (s t : Sheet) → Revision P s t → Toward P D (domains s.list) → Ok s → Ok t
    unfolding kills
    revision_told s t r h w = Reasons.told_cut P F foe foe_in i p (domains s.list) (domains s.why) (domains t.list) (domains t.why) li w (record {
      less = λ j a _ t. r.less j a t;
      more = r.more;
      dies = λ j l a m e. let g = r.dies j a m.1 e in
          rw g.0 (k, (r.k_in, apart x k r.near, (λ l u. r.blamed l (cause-own s.why x k l u)), why a (universal k) refl (ltb x k) refl g.1));
    })
      where
        x : ℕ
        x = r.x

        k : ℕ
        k = r.k

        ans : Answers P (domains s.list) v
        ans = toward_answers D v f (domains s.list) h

        why : (a : ℕ) (c : Bool) → universal k ≡ c → (d : Bool) → ltb x k ≡ d → T (cond (c && d) (clashes P (domains s.list) x a k) (alone P (domains s.list) x a k))
            → ((b : ℕ) → In (domains s.list k) b → T (compatible x a k b) → ⊥)
            ⊎ ((x < k) × (universal k ≡ true) × T (domains t.why x x) × ((b : ℕ) × In (domains s.list k) b × (T (compatible x a k b) → ⊥)))
        why a true c true d u = inr (ltb-true x k d, c, r.blamed x (cause_self s.why x k c d), Arc.clashes_out P (domains s.list) v ans x a k u)
        why a true c false d u = inl (Arc.alone_out P (domains s.list) v ans x a k u)
        why a false c d e u = inl (Arc.alone_out P (domains s.list) v ans x a k u)

    pub revisions-told : (s t : Sheet) → Revisions P s t → Toward P D (domains s.list) → Ok s → Ok t
    revisions-told s t none h w = w
    revisions-told s t (one {t = u} rs r) h w = revision_told u t r (revisions_toward D v f s u rs h) (revisions-told s u rs h w)

  -- No dead value is left ------------------------------------------------------------------------------------------------
  abbrev fires : ℕ → ℕ → Sheet → Bool
  fires x k s = not (universal x) && (constrained x k && not (eqb (surviving P s.list x k) (get_or s.list x 0)))

  abbrev mass : Sheet → ℕ
  mass s = size P (domains s.list)

  -- Values that die make the mask another.
  fires_in : (x k : ℕ) (s : Sheet) → Formed P s → (a : ℕ) → In (domains s.list x) a → T (kills P (domains s.list) x a k) → T (not (eqb (surviving P s.list x k) (get_or s.list x 0)))
  unfolding surviving domains
  fires_in x k s w a m t = rw (ne_eqb (mask_of 16 (λ a. bit (get_or s.list x 0) a && not (kills P (domains s.list) x a k))) (get_or s.list x 0) λ e.
      T_not (kills P (domains s.list) x a k) (and_out (bit (get_or s.list x 0) a) (not (kills P (domains s.list) x a k)) (rw (bit-mask_of 16 (λ a. bit (get_or s.list x 0) a && not (kills P (domains s.list) x a k)) a m.0) at (rw (← e) at m.1))).1 t) tt

  fires_out : (x k : ℕ) (s : Sheet) → Formed P s → T (not (eqb (surviving P s.list x k) (get_or s.list x 0))) → (a : ℕ) × In (domains s.list x) a × T (kills P (domains s.list) x a k)
  unfolding surviving domains
  fires_out x k s w t = test (some 16 (domains s.list x) (λ a. kills P (domains s.list) x a k))
      (λ u. let r = some_out 16 (domains s.list x) (λ a. kills P (domains s.list) x a k) u in (r.0, (r.1, r.2), r.3))
      (λ e. absurd (T_not (eqb m (get_or s.list x 0)) t (rw (bit_ext 16 m (get_or s.list x 0) (mask_of_lt 16 left) (w.masks.small x) λ a l. bit-mask_of 16 left a l ∙ whole e a l) (eqb_refl (get_or s.list x 0)))))
    where
      left : ℕ → Bool
      left a = bit (get_or s.list x 0) a && not (kills P (domains s.list) x a k)

      m : ℕ
      m = mask_of 16 left

      whole : some 16 (domains s.list x) (λ a. kills P (domains s.list) x a k) ≡ false → (a : ℕ) → a < 16 → left a ≡ bit (get_or s.list x 0) a
      whole e a l = same (left a) (bit (get_or s.list x 0) a) (λ t. (and_out (bit (get_or s.list x 0) a) (not (kills P (domains s.list) x a k)) t).0)
          (λ t. and_in (bit (get_or s.list x 0) a) (not (kills P (domains s.list) x a k)) t (not_T (kills P (domains s.list) x a k) (λ u. clash e (some_in 16 (domains s.list x) (λ a. kills P (domains s.list) x a k) a l t u))))

  revise_formed : (x k : ℕ) (s : Sheet) → x < n → k < n → Formed P s → Formed P (revise P x k s)
  revise_formed x k s lx lk w = go (revise_is x k s lx lk w)
    where
      go : (revise P x k s ≡ s) ⊎ Revision P s (revise P x k s) → Formed P (revise P x k s)
      go (inl e) = rw e w
      go (inr r) = r.formed

  -- A revision that changes anything makes the list smaller.
  revise_falls : (x k : ℕ) (s : Sheet) → x < n → Formed P s → Falls mass (fires x k s ≡ false) s (revise P x k s)
  unfolding revise
  revise_falls x k s lx w = go (fires x k s) refl
    where
      t : Sheet
      t = record { list = set s.list x (surviving P s.list x k); why = set s.why x (bit_or (get_or s.why x 0) (cause P s.why x k)) }

      left : ℕ → Bool
      left a = domains s.list x a && not (kills P (domains s.list) x a k)

      at : (a : ℕ) → domains t.list x a ≡ left a
      at a = revised-list x k s lx w x a ∙ ap (λ (m : ℕ → Bool). m a) (replace_at (domains s.list) x left)

      sub : (j a : ℕ) → T (domains t.list j a) → T (domains s.list j a)
      sub j a u = by_eq j x (λ z. rw z (and_out (domains s.list x a) (not (kills P (domains s.list) x a k)) (rw (z, at a) at u)).0)
          (λ z. rw (revised-list x k s lx w j a, replace_off (domains s.list) x left j z) at u)

      go : (b : Bool) → fires x k s ≡ b → Falls mass (b ≡ false) s (cond b t s)
      go true e =
          let c = and_out (constrained x k) (not (eqb (surviving P s.list x k) (get_or s.list x 0))) (and_out (not (universal x)) (constrained x k && not (eqb (surviving P s.list x k) (get_or s.list x 0))) (rw e tt)).1 in
          let r = fires_out x k s w c.1 in
          inr (Closure.size_lt P (domains s.list) (domains t.list) sub x r.0 lx r.1.0 r.1.1
          (fails {b = domains t.list x r.0} λ z. T_not (kills P (domains s.list) x r.0 k) (and_out (domains s.list x r.0) (not (kills P (domains s.list) x r.0 k)) (rw (at r.0) at z)).1 r.2))
      go false e = inl (refl, refl)

  abbrev Still : Sheet → Type 0
  Still s = (x : ℕ) → 0 ≤ x → x < n → (k : ℕ) → 0 ≤ k → k < n → fires x k s ≡ false

  row_formed : (x : ℕ) (s : Sheet) → x < n → Formed P s → Formed P (loop n 0 (λ k. revise P x k) s)
  row_formed x s lx w = loop_keeps (Formed P) n 0 n (λ k. revise P x k) (omega arith) (λ k t lk w. revise_formed x k t lx lk w) s w

  pass_falls : (s : Sheet) → Formed P s → Falls mass (Still s) s (pass P s)
  unfolding pass
  pass_falls s w =
      loop_falls mass (Formed P) (λ x s. (k : ℕ) → 0 ≤ k → k < n → fires x k s ≡ false) n (λ x. loop n 0 (λ k. revise P x k))
      (λ x s lx w. loop_falls mass (Formed P) (λ k s. fires x k s ≡ false) n (λ k. revise P x k) (λ k s lk w. revise_falls x k s lx w) (λ k s lk w. revise_formed x k s lx lk w) n 0 (omega arith) s w)
      row_formed n 0 (omega arith) s w

  pass_formed : (s : Sheet) → Formed P s → Formed P (pass P s)
  unfolding pass
  pass_formed s w = loop_keeps (Formed P) n 0 n (λ x. loop n 0 (λ k. revise P x k)) (omega arith) row_formed s w

  still_closed : (s : Sheet) → Formed P s → Still s → Closed P (domains s.list)
  unfolding dead kills
  still_closed s w h x lx d a m = fails {b = dead P (domains s.list) x a} λ t.
      let r = some_out n (constrained x) (λ y. cond (universal y && ltb x y) (clashes P (domains s.list) x a y) (alone P (domains s.list) x a y)) t in
      let k = r.0 in
      clash (h x (omega arith) lx k (omega arith) r.1) (and_in (not (universal x)) (constrained x k && not (eqb (surviving P s.list x k) (get_or s.list x 0))) (rw d tt)
      (and_in (constrained x k) (not (eqb (surviving P s.list x k) (get_or s.list x 0))) r.2 (fires_in x k s w a m r.3)))

  same_refl : (l : List ℕ) → T (same_domains P l l)
  unfolding same_domains
  same_refl l = each_in n (λ j. true) (λ j. eqb (get_or l j 0) (get_or l j 0)) (λ j _ _. eqb_refl (get_or l j 0))

  same_lists : (l m : List ℕ) → Masks n l → Masks n m → T (same_domains P l m) → l ≡ m
  unfolding same_domains
  same_lists l m w v t =
      let a = w.size in
      let b = v.size in
      ext_get_or 0 l m (a ∙ sym b) (λ j h. eqb→eq (get_or l j 0) (get_or m j 0) (each_out n (λ j. true) (λ j. eqb (get_or l j 0) (get_or m j 0)) t j (omega arith) tt))

  passes-closed : (v : ℕ) (s : Sheet) → Formed P s → mass s ≤ v → Closed P (domains (passes P v s).list)
  unfolding passes
  passes-closed zero s w h = λ j l d a m. let z = Closure.size_lt P (domains s.list) (λ j a. false) (λ j a t. absurd t) j a l m.0 m.1 refl in absurd (omega arith)
  passes-closed (suc v) s w h = go (same_domains P (pass P s).list s.list) refl (pass_falls s w) (passes-closed v (pass P s) (pass_formed s w))
    where
      go : (b : Bool) → same_domains P (pass P s).list s.list ≡ b → Falls mass (Still s) s (pass P s)
          → (mass (pass P s) ≤ v → Closed P (domains (passes P v (pass P s)).list)) → Closed P (domains (cond b (pass P s) (passes P v (pass P s))).list)
      go true e (inl k) ih = rw k.1 (still_closed s w k.0)
      go true e (inr k) ih =
          let q = ap {B = ℕ} (λ l. size P (domains l)) (same_lists (pass P s).list s.list (pass_formed s w).masks w.masks (rw e tt)) in absurd (omega (arith, k, q))
      go false e (inl k) ih = absurd (clash (rw k.1 at e) (same_refl s.list))
      go false e (inr k) ih = ih (omega (arith, k, h))

  pub revisions-closed : (s : Sheet) → Formed P s → Closed P (domains (revisions P s).list)
  unfolding revisions
  revisions-closed s w = passes-closed (16 * n) s w (Closure.size_most P (domains s.list))

  -- Passes until one changes nothing end where 16 n passes do.
  passes-loop : (v a : ℕ) (s : Sheet) → Formed P s → passes P v s ≡ loop v a (λ _. pass P) s
  unfolding passes loop
  passes-loop zero a s w = refl
  passes-loop (suc v) a s w = go (same_domains P (pass P s).list s.list) refl (pass_falls s w) (passes-loop v (suc a) (pass P s) (pass_formed s w))
    where
      still : (v a : ℕ) (t : Sheet) → pass P t ≡ t → loop v a (λ _. pass P) t ≡ t
      still zero a t e = refl
      still (suc v) a t e = ap (loop v (suc a) (λ _. pass P)) e ∙ still v (suc a) t e

      go : (b : Bool) → same_domains P (pass P s).list s.list ≡ b → Falls mass (Still s) s (pass P s)
          → passes P v (pass P s) ≡ loop v (suc a) (λ _. pass P) (pass P s)
          → cond b (pass P s) (passes P v (pass P s)) ≡ loop v (suc a) (λ _. pass P) (pass P s)
      go true e (inl k) ih = k.1 ∙ sym (ap (loop v (suc a) (λ _. pass P)) k.1 ∙ still v (suc a) s k.1)
      go true e (inr k) ih =
          let q = ap {B = ℕ} (λ l. size P (domains l)) (same_lists (pass P s).list s.list (pass_formed s w).masks w.masks (rw e tt)) in absurd (omega (arith, k, q))
      go false e k ih = ih

  pub revisions-loop : (s : Sheet) → Formed P s → revisions P s ≡ loop (16 * n) 0 (λ _. pass P) s
  unfolding revisions
  revisions-loop s w = passes-loop (16 * n) 0 s w

  -- The list -------------------------------------------------------------------------------------------------------------
  -- Revisions P in any order that leave no dead value end in rule 1's list.
  pub revisions-list : (s t : Sheet) (v : Play) → Answers P (domains s.list) v → Formed P s → Revisions P s t → Closed P (domains t.list) → t.list ≡ (arc P s.list).list
  unfolding arc
  revisions-list s t v f w rs c =
      let D = domains s.list in
      masks_ext n t.list (arc P s.list).list (revisions_formed s t w rs).masks (OnLists.arc_masks P s.list w.masks) λ j l a h.
      Closure.arc_is P D (domains t.list) v f (revisions_toward D v f s t rs (Arc.toward_refl P D)) c j l a h
      ∙ sym (ap (λ (E : Domains). E j a) (OnLists.domains-swept P (16 * n) s.list w.masks))
