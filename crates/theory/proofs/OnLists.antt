-- Rules 1 to 5 on lists that may be lent.
use mathlib.Core.Path.{◌≡◌, refl, sym, ap, subst, ◌∙◌, fun_ext}
use mathlib.Core.Bool.{Bool, true, false, cond, not, ◌&&◌}
use mathlib.Core.List.{List}
use Prim.Native.Nat.{ℕ, zero, suc, ◌*◌, ◌<◌}
use native.Mathlib.Omega.{arith}
use lib.Dec.{T, T_not, not_T, eqb, eqb→eq, eqb_refl, ltb, lt→ltb, ltb→lt}
use lib.ListN.{get_or, set}
use borrow.Author.Tests.{eqb-true}
use Rattle.mask.specs.Range.{some, first}
use Rattle.mask.specs.Mask.{bit, diff, mask_of}
use Rattle.mask.proofs.Logic.{same, holds, fails, clash, test, by_eq, and_in, and_out}
use Rattle.mask.proofs.Range.{some_out, some_in, first_least, first_in, first_none}
use Rattle.mask.proofs.Bits.{bit-diff}
use Rattle.mask.proofs.Masks.{mask_of_lt, diff_lt}
use Rattle.game.specs.Problem.{Problem}
use Rattle.game.specs.Game.{Domains, Play, replace}
use Rattle.game.specs.Lists.{domains, masks_of, narrow_to, wins_over, Masks}
use Rattle.game.specs.Arc.{dead, sweep, sweeps, swept, arc}
use Rattle.game.specs.Removals.{Removal, Removals, none, more, NoneDead}
use Rattle.game.specs.Forward.{forward_domains, forward_fails, forward_loss, forward, forward_named}
use Rattle.game.specs.LookAhead.{ahead_loss, look_ahead, ahead_named}
use Rattle.game.specs.Support.{clashes}
use Rattle.game.specs.Pure.{is_pure, purged, purge, is_impure, clash_variable, clash_value}
use Rattle.game.specs.Interchangeable.{representatives, interchangeable, represent}
use Rattle.theory.proofs.Moves.{replace_at, replace_off}
use Rattle.theory.proofs.Transfer.{In}
use Rattle.theory.proofs.Swap.{start}
use Rattle.theory.proofs.Laws.{Answers}
use Rattle.theory.proofs.Arc
use Rattle.theory.proofs.Arc.{Toward}
use Rattle.theory.proofs.Pure
use Rattle.theory.proofs.Interchangeable
use Rattle.theory.proofs.Turn.{sweep-part, sweep_cut, sweeps_toward}
use Rattle.theory.proofs.Closure
use Rattle.theory.proofs.Lists
use Rattle.theory.proofs.Lists.{Boxed, Lent, masks_of_masks, domains-masks_of, domains_boxed, masks_of-domains, over-start}

-- Two lists of n masks with the same values are equal.
pub masks_ext : (n : ℕ) (l m : List ℕ) → Masks n l → Masks n m → ((j : ℕ) → j < n → (a : ℕ) → a < 16 → domains l j a ≡ domains m j a) → l ≡ m
masks_ext n l m w v e =
    sym (masks_of-domains n l w) ∙ ap (masks_of n) (fun_ext λ j. fun_ext λ a. both j a) ∙ masks_of-domains n m v
  where
    both : (j a : ℕ) → domains l j a ≡ domains m j a
    both j a = same (domains l j a) (domains m j a)
        (λ t. let b = domains_boxed n l w j a t in rw (e j b.0 a b.1) at t) (λ t. let b = domains_boxed n m v j a t in rw (e j b.0 a b.1) t)

module _ (P : Problem) where
  open P use {n, universal, compatible, constrained}

  -- A value of each domain, for the universal side.
  abbrev pub lowest_of : List ℕ → Play
  lowest_of l j = first 16 (domains l j)

  lowest_in : (l : List ℕ) → Lent P l → (j : ℕ) → j < n → In (domains l j) (lowest_of l j)
  lowest_in l w j h = let v = w.full j h in first_in 16 (domains l j) v.0 v.1.0 v.1.1

  pub answers : (l : List ℕ) → Lent P l → Answers P (domains l) (lowest_of l)
  answers l w j h s = lowest_in l w j h

  -- Rule 1 ------------------------------------------------------------------------------------------------------------------
  sweep_boxed : (D : Domains) → Boxed n D → Boxed n (sweep P D)
  sweep_boxed D b j a t = b j a ((sweep-part P D).sub j a t)

  sweeps_less : (k : ℕ) (D : Domains) (j a : ℕ) → T (sweeps P k D j a) → T (D j a)
  unfolding sweeps
  sweeps_less zero D j a t = t
  sweeps_less (suc k) D j a t = (sweep-part P D).sub j a (sweeps_less k (sweep P D) j a t)

  -- Sweeps of a list are sweeps of its domains, and removals.
  pub swept_masks : (k : ℕ) (l : List ℕ) → Masks n l → Masks n (swept P k l)
  unfolding swept
  swept_masks zero l w = w
  swept_masks (suc k) l w = swept_masks k (masks_of n (sweep P (domains l))) (masks_of_masks n (sweep P (domains l)))

  pub domains-swept : (k : ℕ) (l : List ℕ) → Masks n l → domains (swept P k l) ≡ sweeps P k (domains l)
  unfolding swept sweeps
  domains-swept zero l w = refl
  domains-swept (suc k) l w =
      domains-swept k (masks_of n (sweep P (domains l))) (masks_of_masks n (sweep P (domains l)))
      ∙ ap (sweeps P k) (domains-masks_of n (sweep P (domains l)) (sweep_boxed (domains l) (domains_boxed n l w)))

  swept_removals : (k : ℕ) (l : List ℕ) → Masks n l → Removals P l (swept P k l)
  unfolding swept
  swept_removals zero l w = none
  swept_removals (suc k) l w =
      let m = masks_of n (sweep P (domains l)) in
      let e : domains m ≡ sweep P (domains l) = domains-masks_of n (sweep P (domains l)) (sweep_boxed (domains l) (domains_boxed n l w)) in
      more {l = l} {k = m} (record {
        masks = masks_of_masks n (sweep P (domains l));
        less = λ j a t. (sweep-part P (domains l)).sub j a (subst (λ (D : Domains). T (D j a)) e t);
        kept = λ j a s t. subst (λ (D : Domains). T (D j a)) (sym e) ((sweep-part P (domains l)).keep j a s t);
        died = λ j h s a i z. sweep_cut P (domains l) j a s i (ap (λ (D : Domains). D j a) (sym e) ∙ z);
      }) (swept_removals k m (masks_of_masks n (sweep P (domains l))))

  -- Rule 1's list comes by removals, and none is dead in it.
  pub arc_removals : (l : List ℕ) → Masks n l → Removals P l (arc P l).list
  unfolding arc
  arc_removals l w = swept_removals (16 * n) l w

  pub arc_none_dead : (l : List ℕ) → Masks n l → NoneDead P (arc P l).list
  unfolding arc
  arc_none_dead l w = subst (λ (D : Domains). (j : ℕ) → j < n → universal j ≡ false → (a : ℕ) → T (D j a) → dead P D j a ≡ false) (sym (domains-swept (16 * n) l w))
      λ j h s a t. Closure.arc-closed P (domains l) j h s a ((domains_boxed n l w j a (part j a t)).1, t)
    where
      part : (j a : ℕ) → T (sweeps P (16 * n) (domains l) j a) → T (domains l j a)
      part = sweeps_less (16 * n) (domains l)

  pub arc_masks : (l : List ℕ) → Masks n l → Masks n (arc P l).list
  unfolding arc
  arc_masks l w = swept_masks (16 * n) l w

  -- Removals of a list are removals of its domains.
  removals_toward : (l : List ℕ) → Lent P l → {k m : List ℕ} → Removals P k m → Masks n k → Toward P (domains l) (domains k) → Masks n m × Toward P (domains l) (domains m)
  removals_toward l w none v t = (v, t)
  removals_toward l w (more {l = k} {k = k'} r s) v t =
      removals_toward l w s r.masks (Arc.toward_step P (domains l) (domains k) (domains k') (lowest_of l) (answers l w) t (record { sub = r.less; keep = r.kept }) (λ j h s a m z. r.died j h s a m.1 z))

  -- Any order of removal that leaves none dead ends in the list of rule 1.
  pub arc_order : (l m : List ℕ) → Lent P l → Removals P l m → NoneDead P m → m ≡ (arc P l).list
  unfolding arc
  arc_order l m w r c =
      let q = removals_toward l w r w.masks (Arc.toward_refl P (domains l)) in
      masks_ext n m (swept P (16 * n) l) q.0 (swept_masks (16 * n) l w.masks) λ j h a k.
      Closure.arc_is P (domains l) (domains m) (lowest_of l) (answers l w) q.1 (λ j h s a m. c j h s a m.1) j h a k ∙ sym (ap (λ (D : Domains). D j a) (domains-swept (16 * n) l w.masks))

  -- Won before exactly if no loss and won after.
  pub arc_law : (l : List ℕ) → Lent P l → wins_over P l ≡ (not (arc P l).loss && wins_over P (arc P l).list)
  unfolding arc
  arc_law l w =
      over-start P l
      ∙ Arc.arc_law P (domains l) (sweeps P (16 * n) (domains l)) (lowest_of l) (answers l w) (sweeps_toward P (16 * n) (domains l) (domains l) (lowest_of l) (answers l w) (Arc.toward_refl P (domains l)))
      ∙ sym (rw (over-start P (swept P (16 * n) l), domains-swept (16 * n) l w.masks))

  -- Dead values of one variable taken out, as a mask w of them: a removal.
  pub remove_some : (l : List ℕ) → Masks n l → (x : ℕ) → x < n → universal x ≡ false → (w : ℕ)
      → ((a : ℕ) → T (bit w a) → T (domains l x a) → T (dead P (domains l) x a)) → Removal P l (set l x (diff (get_or l x 0) w))
  unfolding domains
  remove_some l k x h s w f = record {
    masks = Lists.masks_set n l x (diff (get_or l x 0) w) h (diff_lt 16 (get_or l x 0) w (k.small x)) k;
    less = λ j a t. by_eq j x (λ e. rw e (and_out (domains l x a) (not (bit w a)) (rw (e, at_x a) at t)).0) (λ e. rw (off j a e) at t);
    kept = λ j a u t. by_eq j x (λ e. absurd (clash s (rw (← e, u) tt))) (λ e. rw (off j a e) t);
    died = λ j l' u a m z. by_eq j x
        (λ e. let t : T (domains l x a) = rw e at m in rw e (test (bit w a) (λ b. f a b t) (λ b. absurd (clash (rw (e, at_x a) at z) (and_in (domains l x a) (not (bit w a)) t (rw b tt))))))
        (λ e. absurd (clash (rw (off j a e) at z) m));
  }
    where
      here : (a : ℕ) → bit (diff (get_or l x 0) w) a ≡ (domains l x a && not (bit w a))
      here a = bit-diff (get_or l x 0) w a

      at_x : (a : ℕ) → domains (set l x (diff (get_or l x 0) w)) x a ≡ (domains l x a && not (bit w a))
      at_x a = ap (λ (D : Domains). D x a) (Lists.domains-set n l x (diff (get_or l x 0) w) h k) ∙ ap (λ (d : ℕ → Bool). d a) (replace_at (domains l) x (bit (diff (get_or l x 0) w))) ∙ here a

      off : (j a : ℕ) → ¬ (j ≡ x) → domains (set l x (diff (get_or l x 0) w)) j a ≡ domains l j a
      off j a e = ap (λ (D : Domains). D j a) (Lists.domains-set n l x (diff (get_or l x 0) w) h k) ∙ ap (λ (d : ℕ → Bool). d a) (replace_off (domains l) x (bit (diff (get_or l x 0) w)) j e)

  -- Rule 2 ------------------------------------------------------------------------------------------------------------------
  forward_boxed : (D : Domains) → Boxed n D → (x a : ℕ) → x < n → a < 16 → Boxed n (forward_domains P D x a)
  unfolding forward_domains
  forward_boxed D b x a h k j c t = go (eqb j x) refl (ltb x j && not (universal j)) t
    where
      go : (e : Bool) → eqb j x ≡ e → (f : Bool) → T (cond e (eqb c a) (cond f (compatible x a j c && D j c) (D j c))) → (j < n) × (c < 16)
      go true e f t = let y = eqb-true j x e in let z = eqb→eq c a t in (omega arith, omega arith)
      go false e true t = b j c (and_out (compatible x a j c) (D j c) t).1
      go false e false t = b j c t

  pub forward_masks : (x a : ℕ) (l : List ℕ) → Masks n (forward P x a l).list
  unfolding forward
  forward_masks x a l = masks_of_masks n (forward_domains P (domains l) x a)

  pub domains-forward : (x a : ℕ) (l : List ℕ) → x < n → a < 16 → Masks n l → domains (forward P x a l).list ≡ forward_domains P (domains l) x a
  unfolding forward
  domains-forward x a l h k w = domains-masks_of n (forward_domains P (domains l) x a) (forward_boxed (domains l) (domains_boxed n l w) x a h k)

  -- Won before, with the variable narrowed, exactly if no loss and won after.
  pub forward_law : (l : List ℕ) → Lent P l → (x a : ℕ) → x < n → T (domains l x a)
      → wins_over P (narrow_to l x a) ≡ (not (forward P x a l).loss && wins_over P (forward P x a l).list)
  unfolding forward
  forward_law l w x a h t =
      let k = domains_boxed n l w.masks x a t in
      over-start P (narrow_to l x a) ∙ ap (start P) (Lists.domains-narrow_to n l x a h w.masks)
      ∙ Arc.forward_law P (domains l) (lowest_of l) (answers l w) x a h k.1
      ∙ sym (rw (over-start P (masks_of n (forward_domains P (domains l) x a)), domains-masks_of n (forward_domains P (domains l) x a) (forward_boxed (domains l) (domains_boxed n l w.masks) x a h k.1)))

  -- The variable that a loss names: it is later, the check fails there, and at no later one below it.
  pub forward_named_lem : (x a : ℕ) (l : List ℕ) → T (forward P x a l).loss
      → let j = forward_named P x a l in (x < j) × (j < n) × T (forward_fails P (domains l) x a j) × ((i : ℕ) → x < i → i < j → forward_fails P (domains l) x a i ≡ false)
  unfolding forward forward_loss forward_named
  forward_named_lem x a l t =
      let r = some_out n (ltb x) (forward_fails P (domains l) x a) t in
      let f : ℕ → Bool = λ j. ltb x j && forward_fails P (domains l) x a j in
      let e = first_in n f r.0 r.1 (and_in (ltb x r.0) (forward_fails P (domains l) x a r.0) r.2 r.3) in
      let s = and_out (ltb x (first n f)) (forward_fails P (domains l) x a (first n f)) e.1 in (
        ltb→lt x (first n f) s.0,
        e.0,
        s.1,
        λ i h k. fails {b = forward_fails P (domains l) x a i} λ u. clash {b = f i} (first_least n f i k) (and_in (ltb x i) (forward_fails P (domains l) x a i) (lt→ltb x i h) u),
      )

  -- Rule 3 ------------------------------------------------------------------------------------------------------------------
  pub ahead_law : (l : List ℕ) → Lent P l → (x : ℕ) → x < n → T (look_ahead P x l) → wins_over P l ≡ false
  unfolding look_ahead ahead_loss
  ahead_law l w x h t =
      let q = and_out (universal x) (some 16 (domains l x) (λ a. forward_loss P (domains l) x a)) t in
      let r = some_out 16 (domains l x) (λ a. forward_loss P (domains l) x a) q.1 in
      over-start P l ∙ Arc.ahead_law P (domains l) (lowest_of l) (answers l w) x r.0 h r.1 (holds {b = universal x} q.0) r.2 r.3

  -- The value that a loss names: its check loses, and no lower value's does.
  pub ahead_named_lem : (x : ℕ) (l : List ℕ) → T (look_ahead P x l)
      → let a = ahead_named P x l in (a < 16) × T (domains l x a) × T (forward P x a l).loss × ((b : ℕ) → b < a → T (domains l x b) → (forward P x b l).loss ≡ false)
  unfolding look_ahead ahead_loss ahead_named forward
  ahead_named_lem x l t =
      let q = and_out (universal x) (some 16 (domains l x) (λ a. forward_loss P (domains l) x a)) t in
      let r = some_out 16 (domains l x) (λ a. forward_loss P (domains l) x a) q.1 in
      let f : ℕ → Bool = λ a. domains l x a && forward_loss P (domains l) x a in
      let e = first_in 16 f r.0 r.1 (and_in (domains l x r.0) (forward_loss P (domains l) x r.0) r.2 r.3) in
      let s = and_out (domains l x (first 16 f)) (forward_loss P (domains l) x (first 16 f)) e.1 in (
        e.0,
        s.0,
        s.1,
        λ b h m. fails {b = forward_loss P (domains l) x b} λ u. clash {b = f b} (first_least 16 f b h) (and_in (domains l x b) (forward_loss P (domains l) x b) m u),
      )

  pub ahead_existential : (l : List ℕ) (x : ℕ) → universal x ≡ false → look_ahead P x l ≡ false
  unfolding look_ahead ahead_loss
  ahead_existential l x s = rw s

  -- Rules 4 and 5 -----------------------------------------------------------------------------------------------------------
  pub domains-purge : (x : ℕ) (l : List ℕ) → x < n → Masks n l → domains (purge P x l) ≡ replace (domains l) x (purged P (domains l) x)
  unfolding purge
  domains-purge x l h w = Lists.domains_mask n l x (purged P (domains l) x) h (λ a t. (domains_boxed n l w x a (Pure.purged_in P (domains l) x a t)).1) w

  pub purge_masks : (x : ℕ) (l : List ℕ) → x < n → Masks n l → Masks n (purge P x l)
  unfolding purge
  purge_masks x l h w = Lists.masks_set n l x (mask_of 16 (purged P (domains l) x)) h (mask_of_lt 16 (purged P (domains l) x)) w

  pub purge_law : (l : List ℕ) → Lent P l → (x : ℕ) → x < n → wins_over P l ≡ wins_over P (purge P x l)
  purge_law l w x h =
      over-start P l ∙ Pure.pure_law P (domains l) x h (λ _. w.full x h)
      ∙ sym (over-start P (purge P x l) ∙ ap (start P) (domains-purge x l h w.masks))

  -- The names for a value that is not pure: another variable and a value of it that it does not go with; it goes with all values of earlier
  -- variables, and with all earlier values of this one.
  pub clash_named_lem : (x a : ℕ) (l : List ℕ) → T (is_impure P (domains l) x a)
      → let j = clash_variable P (domains l) x a in
      let b = clash_value P (domains l) x a in
      (j < n) × ¬ (j ≡ x) × (b < 16) × T (domains l j b) × (compatible x a j b ≡ false)
      × ((i c : ℕ) → i < j → ¬ (i ≡ x) → c < 16 → T (domains l i c) → T (compatible x a i c))
      × ((c : ℕ) → c < b → T (domains l j c) → T (compatible x a j c))
  unfolding clashes clash_variable clash_value
  clash_named_lem x a l t =
      let f : ℕ → Bool = λ j. not (eqb j x) && clashes P (domains l) x a j in
      let r = some_out n (λ j. not (eqb j x)) (clashes P (domains l) x a) (and_out (domains l x a) (some n (λ j. not (eqb j x)) (clashes P (domains l) x a)) (rw (Pure.impure_is P (domains l) x a) at t)).1 in
      let e = first_in n f r.0 r.1 (and_in (not (eqb r.0 x)) (clashes P (domains l) x a r.0) r.2 r.3) in
      let j = first n f in
      let s = and_out (not (eqb j x)) (clashes P (domains l) x a j) e.1 in
      let g : ℕ → Bool = λ b. domains l j b && not (compatible x a j b) in
      let q = some_out 16 (domains l j) (λ b. not (compatible x a j b)) s.1 in
      let k = first_in 16 g q.0 q.1 (and_in (domains l j q.0) (not (compatible x a j q.0)) q.2 q.3) in
      let b = first 16 g in
      let v = and_out (domains l j b) (not (compatible x a j b)) k.1 in (
        e.0,
        λ z. T_not (eqb j x) s.0 (rw z (eqb_refl x)),
        k.0,
        v.0,
        fails {b = compatible x a j b} (T_not (compatible x a j b) v.1),
        λ i c h ne m u. test (compatible x a i c) (λ z. z) λ z. absurd (clash {b = f i} (first_least n f i h)
            (and_in (not (eqb i x)) (clashes P (domains l) x a i) (not_T (eqb i x) (λ y. ne (eqb→eq i x y))) (some_in 16 (domains l i) (λ b. not (compatible x a i b)) c m u (rw z tt)))),
        λ c h m. test (compatible x a j c) (λ z. z) λ z. absurd (clash {b = g c} (first_least 16 g c h) (and_in (domains l j c) (not (compatible x a j c)) m (rw z tt))),
      )

  -- A pure value has no name.
  pub clash_none_lem : (x a : ℕ) (l : List ℕ) → Masks n l → T (is_pure P (domains l) x a) → (clash_variable P (domains l) x a ≡ n) × (clash_value P (domains l) x a ≡ 16)
  unfolding clashes clash_variable clash_value
  clash_none_lem x a l w t =
      let f : ℕ → Bool = λ j. not (eqb j x) && clashes P (domains l) x a j in
      let e : first n f ≡ n = first_none n f λ j h. fails {b = f j} λ u.
      let s = and_out (not (eqb j x)) (clashes P (domains l) x a j) u in
      let r = some_out 16 (domains l j) (λ b. not (compatible x a j b)) s.1 in
      T_not (compatible x a j r.0) r.3 (Pure.pure_out P (domains l) x a t j h (λ z. T_not (eqb j x) s.0 (rw z (eqb_refl x))) r.0 (r.1, r.2)) in (
        e,
        first_none 16 (λ b. domains l (first n f) b && not (compatible x a (first n f) b)) λ b h. fails λ u.
            let v = domains_boxed n l w (first n f) b (and_out (domains l (first n f) b) (not (compatible x a (first n f) b)) u).0 in let k = v.0 in absurd (omega arith),
      )

  -- The list of rule 5, and its law.
  pub domains-represent : (x : ℕ) (l : List ℕ) → x < n → Masks n l → domains (represent P x l) ≡ replace (domains l) x (representatives P (domains l) x)
  unfolding represent interchangeable
  domains-represent x l h w = Lists.domains_mask n l x (representatives P (domains l) x) h (λ a t. (domains_boxed n l w x a (Interchangeable.representatives_in_lem P (domains l) x a t)).1) w

  pub represent_masks : (x : ℕ) (l : List ℕ) → x < n → Masks n l → Masks n (represent P x l)
  unfolding represent interchangeable
  represent_masks x l h w = Lists.masks_set n l x (mask_of 16 (representatives P (domains l) x)) h (mask_of_lt 16 (representatives P (domains l) x)) w

  pub represent_law : (l : List ℕ) → Lent P l → (x : ℕ) → x < n → wins_over P l ≡ wins_over P (represent P x l)
  represent_law l w x h =
      over-start P l ∙ Interchangeable.interchangeable_law P (domains l) x h
      ∙ sym (over-start P (represent P x l) ∙ ap (start P) (domains-represent x l h w.masks))
