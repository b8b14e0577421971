-- The narrowing of rule 4 in the words of masks, and lists after rules that may be lent again.
use mathlib.Core.Path.{◌≡◌, sym, ap, subst, ◌∙◌, fun_ext}
use mathlib.Core.Bool.{Bool, true, false, not, ◌&&◌}
use mathlib.Core.List.{List}
use Prim.Native.Nat.{ℕ, ◌*◌, ◌^◌, ◌<◌}
use native.Mathlib.Omega.{arith}
use lib.Dec.{T, T_not, not_T, eqb, eqb→eq, eqb_refl}
use lib.ListN.{get_or, set}
use lib.Pow.{pow-lt}
use Rattle.mask.specs.Range.{some, first}
use Rattle.mask.specs.Mask.{bit, diff, mask_of}
use Rattle.mask.proofs.Logic.{same, holds, fails, clash, test, by_eq, by_lt, and_in, and_out}
use Rattle.mask.proofs.Range.{some_out, some_in, first_least, first_in}
use Rattle.mask.proofs.Bits.{bit_single, bit-diff, bit_none, bit_of_zero, bit_ext}
use Rattle.mask.proofs.Masks.{mask_of_lt, bit-mask_of, diff_lt}
use Rattle.game.specs.Problem.{Problem}
use Rattle.game.specs.Game.{Domains, replace, narrow}
use Rattle.game.specs.Lists.{domains, narrow_to, Masks}
use Rattle.game.specs.Arc.{arc, arc_loss}
use Rattle.game.specs.Forward.{forward}
use Rattle.game.specs.Pure.{lowest, is_pure, purged, pure, purge}
use Rattle.game.specs.Interchangeable.{representatives, represent}
use Rattle.theory.proofs.Transfer.{In}
use Rattle.theory.proofs.Moves.{replace_at, replace_off}
use Rattle.theory.proofs.Arc
use Rattle.theory.proofs.Pure
use Rattle.theory.proofs.Interchangeable
use Rattle.theory.proofs.Turn
use Rattle.theory.proofs.OnLists
use Rattle.theory.proofs.OnLists.{lowest_of, answers}
use Rattle.theory.proofs.TurnLists
use Rattle.theory.proofs.Lists.{Lent, domains_boxed, bits_of}

-- The lowest member as a mask.
pub lowest_mask : (q : ℕ → Bool) (k : ℕ) → k < 16 → T (q k) → mask_of 16 (lowest q) ≡ 2 ^ first 16 q
unfolding lowest
lowest_mask q k h t =
    let f = first_in 16 q k h t in
    bit_ext 16 (mask_of 16 (lowest q)) (2 ^ first 16 q) (mask_of_lt 16 (lowest q)) (pow-lt f.0) λ a l.
    bit-mask_of 16 (lowest q) a l ∙ same (lowest q a) (eqb a (first 16 q))
    (λ u. let r = and_out (q a) (not (some a q (λ b. true))) u in
    let e : first 16 q ≡ a = by_lt (first 16 q) a (λ z. absurd (T_not (some a q (λ b. true)) r.1 (some_in a q (λ b. true) (first 16 q) z f.1 tt)))
    (λ z. by_lt a (first 16 q) (λ y. absurd (clash (first_least 16 q a y) r.0)) (λ y. omega arith)) in
    rw e (eqb_refl a))
    (λ u. rw (eqb→eq a (first 16 q) u) (and_in (q (first 16 q)) (not (some (first 16 q) q (λ b. true))) f.1
    (not_T (some (first 16 q) q (λ b. true)) (λ s. let r = some_out (first 16 q) q (λ b. true) s in clash (first_least 16 q r.0 r.1) r.2))))
    ∙ sym (bit_single (first 16 q) a)

module _ (P : Problem) (l : List ℕ) (w : Masks P.n l) (x : ℕ) (lx : x < P.n) where
  open P use {n, universal}

  abbrev D : Domains
  D = domains l

  pure_bits : bit (pure P x l) ≡ is_pure P D x
  unfolding pure
  pure_bits = bits_of (is_pure P D x) (λ a t. (domains_boxed n l w x a (Pure.pure_in P D x a t)).1)

  pure_small : pure P x l < 65536
  unfolding pure
  pure_small = mask_of_lt 16 (is_pure P D x)

  -- some value is pure exactly if the reply is not zero
  any_pure : ¬ (pure P x l ≡ 0) → (a : ℕ) × (a < 16) × T (is_pure P D x a)
  any_pure ne = test (some 16 (is_pure P D x) (λ b. true)) (λ t. let r = some_out 16 (is_pure P D x) (λ b. true) t in (r.0, r.1, r.2))
      (λ e. absurd (ne (bit_none 16 (pure P x l) pure_small (λ k h. fails {b = bit (pure P x l) k} λ t.
      clash e (some_in 16 (is_pure P D x) (λ b. true) k h (let u : T (is_pure P D x k) = rw (ap (λ (f : ℕ → Bool). f k) pure_bits) at t in u) tt)))))

  -- Existential: the smallest pure value, or the domain as it was.
  pub purge_existential : universal x ≡ false → ¬ (pure P x l ≡ 0) → purge P x l ≡ narrow_to l x (first 16 (bit (pure P x l)))
  unfolding purge narrow_to purged
  purge_existential s ne =
      let v = any_pure ne in
      let e : some 16 (is_pure P D x) (λ b. true) ≡ true = holds {b = some 16 (is_pure P D x) (λ b. true)} (some_in 16 (is_pure P D x) (λ b. true) v.0 v.1 v.2 tt) in
      ap (set l x) (ap (mask_of 16) (fun_ext λ a. rw (s, e)) ∙ lowest_mask (is_pure P D x) v.0 v.1 v.2 ∙ ap (λ (f : ℕ → Bool). 2 ^ first 16 f) (sym pure_bits))

  -- Universal: the values that are not pure, or the smallest where all are.
  abbrev impure : ℕ
  impure = diff (get_or l x 0) (pure P x l)

  impure_bits : (a : ℕ) → bit impure a ≡ (D x a && not (is_pure P D x a))
  unfolding domains
  impure_bits a = bit-diff (get_or l x 0) (pure P x l) a ∙ rw (ap (λ (f : ℕ → Bool). f a) pure_bits)

  pub purge-universal : universal x ≡ true → ¬ (diff (get_or l x 0) (pure P x l) ≡ 0) → purge P x l ≡ set l x (diff (get_or l x 0) (pure P x l))
  unfolding purge purged
  purge-universal s ne =
      let e : some 16 (D x) (λ b. not (is_pure P D x b)) ≡ true = test (some 16 (D x) (λ b. not (is_pure P D x b))) holds
      (λ e. absurd (ne (bit_none 16 impure (diff_lt 16 (get_or l x 0) (pure P x l) (w.small x)) (λ k h. impure_bits k ∙ fails {b = D x k && not (is_pure P D x k)} λ t.
      let r = and_out (D x k) (not (is_pure P D x k)) t in clash e (some_in 16 (D x) (λ b. not (is_pure P D x b)) k h r.0 r.1))))) in
      ap (set l x) (ap (mask_of 16) (fun_ext λ a. rw (s, e)) ∙ bit_ext 16 (mask_of 16 (λ a. D x a && not (is_pure P D x a))) impure (mask_of_lt 16 (λ a. D x a && not (is_pure P D x a)))
      (diff_lt 16 (get_or l x 0) (pure P x l) (w.small x)) (λ k h. bit-mask_of 16 (λ a. D x a && not (is_pure P D x a)) k h ∙ sym (impure_bits k)))

  pub purge_all : universal x ≡ true → (v : ℕ) → In (domains l x) v → diff (get_or l x 0) (pure P x l) ≡ 0 → purge P x l ≡ narrow_to l x (first 16 (domains l x))
  unfolding purge narrow_to purged
  purge_all s v m z =
      let e : some 16 (D x) (λ b. not (is_pure P D x b)) ≡ false = fails {b = some 16 (D x) (λ b. not (is_pure P D x b))} λ t.
      let r = some_out 16 (D x) (λ b. not (is_pure P D x b)) t in
      clash {b = bit impure r.0} (rw z (bit_of_zero r.0)) (rw (impure_bits r.0) (and_in (D x r.0) (not (is_pure P D x r.0)) r.2 r.3)) in
      ap (set l x) (ap (mask_of 16) (fun_ext λ a. rw (s, e)) ∙ lowest_mask (D x) v m.0 m.1)

-- Lists after rules may be lent again.
module _ (P : Problem) (l : List ℕ) (w : Lent P l) where
  open P use {n}

  replaced : (m : List ℕ) (x : ℕ) (q : ℕ → Bool) → Masks n m → domains m ≡ replace (domains l) x q → ((a : ℕ) → T (q a) → T (domains l x a)) → (b : ℕ) × In q b → Lent P m
  replaced m x q k e f v = record {
    masks = k;
    full = λ i h. subst (λ (E : Domains). (b : ℕ) × In (E i) b) (sym e) (TurnLists.replace_fills P (domains l) x q w.full v i h);
    within = λ i a t. w.within i a (less i a (subst (λ (E : Domains). T (E i a)) e t));
  }
    where
      less : (i a : ℕ) → T (replace (domains l) x q i a) → T (domains l i a)
      less i a t = by_eq i x (λ z. rw z (f a (rw (z, replace_at (domains l) x q) at t))) (λ z. rw (replace_off (domains l) x q i z) at t)

  pub purge_lent : (x : ℕ) → x < n → Lent P (purge P x l)
  purge_lent x h =
      let v = w.full x h in
      replaced (purge P x l) x (purged P (domains l) x) (OnLists.purge_masks P x l h w.masks) (OnLists.domains-purge P x l h w.masks) (Pure.purged_in P (domains l) x)
      (Pure.purged-full P (domains l) x v.0 v.1)

  pub represent_lent : (x : ℕ) → x < n → Lent P (represent P x l)
  represent_lent x h =
      let v = w.full x h in
      let r = Interchangeable.represented P (domains l) x 16 v.0 v.1.0 (omega arith) v.1.1 in
      replaced (represent P x l) x (representatives P (domains l) x) (OnLists.represent_masks P x l h w.masks) (OnLists.domains-represent P x l h w.masks)
      (Interchangeable.representatives_in_lem P (domains l) x) (r.0, r.1)

  pub arc_lent : (arc P l).loss ≡ false → Lent P (arc P l).list
  unfolding arc Turn.arc
  arc_lent e =
      let d = OnLists.domains-swept P (16 * n) l w.masks in
      record {
        masks = OnLists.swept_masks P (16 * n) l w.masks;
        full = λ i h. subst (λ (E : Domains). (b : ℕ) × In (E i) b) (sym d) (TurnLists.arc_fills P (domains l) w.full (sym (ap (arc_loss P) d) ∙ e) i h);
        within = λ i a t. w.within i a
            ((Turn.sweeps_toward P (16 * n) (domains l) (domains l) (lowest_of P l) (answers P l w) (Arc.toward_refl P (domains l))).part.sub i a (subst (λ (E : Domains). T (E i a)) d t));
      }

  pub forward_lent : (x a : ℕ) → x < n → T (domains l x a) → (forward P x a l).loss ≡ false → Lent P (forward P x a l).list
  unfolding forward Turn.check
  forward_lent x a h t e =
      let k = domains_boxed n l w.masks x a t in
      let d = OnLists.domains-forward P x a l h k.1 w.masks in
      record {
        masks = OnLists.forward_masks P x a l;
        full = λ i g. subst (λ (E : Domains). (b : ℕ) × In (E i) b) (sym d) (TurnLists.check_fills P x (λ j. a) k.1 (domains l) w.full e i g);
        within = λ i b s. w.within i b (less i b (Arc.forward_sub P (domains l) (lowest_of P l) (answers P l w) x a h k.1 i b (subst (λ (E : Domains). T (E i b)) d s)));
      }
    where
      less : (i b : ℕ) → T (narrow (domains l) x a i b) → T (domains l i b)
      less i b s = by_eq i x (λ z. let u : T (eqb b a) = rw (z, replace_at (domains l) x (λ c. eqb c a)) at s in rw (z, eqb→eq b a u) t) (λ z. rw (replace_off (domains l) x (λ c. eqb c a) i z) at s)
