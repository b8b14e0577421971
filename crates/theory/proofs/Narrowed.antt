-- Rules 4 and 5 at the next variable: they narrow its domain alone, to a part with a value as good for each.
use mathlib.Core.Path.{◌≡◌, refl, sym, ap, subst, ◌∙◌}
use mathlib.Core.Bool.{Bool, true, false, cond}
use mathlib.Core.List.{List}
use Prim.Native.Nat.{ℕ, ◌<◌}
use native.Mathlib.Omega.{arith}
use Rattle.mask.specs.Range.{some}
use Rattle.mask.proofs.Range.{some_out}
use Rattle.game.specs.Problem.{Problem}
use Rattle.game.specs.Game.{replace, Domains, Play}
use Rattle.game.specs.Lists.{domains, Masks}
use Rattle.game.specs.Pure.{lowest, is_pure, purged}
use Rattle.game.specs.Interchangeable.{representatives}
use Rattle.game.specs.Rule.{uses, Ruled, ListRule, unruled, if_so, and_next}
use Rattle.game.specs.Turn.{narrow_pure, narrow_interchangeable}
use Rattle.game.specs.Search.{narrow_next}
use Rattle.theory.proofs.Transfer.{In}
use Rattle.theory.proofs.Swap.{start, Better}
use Rattle.theory.proofs.Moves.{replace_at, replace_off}
use Rattle.theory.proofs.Pure.{lowest_is, lowest_out, pure_out}
use Rattle.theory.proofs.Interchangeable
use Rattle.theory.proofs.Sound.{State, Sound}
use Rattle.theory.proofs.Turn
use Rattle.theory.proofs.OnLists

module _ (P : Problem) where
  open P use {n, universal}

  pub record Trims (i : ℕ) (p : Play) (l : List ℕ) (o : Ruled) : Type 0 where
    pub sound : Sound P i p (domains l) (record { loss = o.loss; dom = domains o.list })
    pub calm : o.loss ≡ false
    pub masks : Masks n o.list
    pub off : (j : ℕ) → ¬ (j ≡ i) → domains o.list j ≡ domains l j
    pub cover : universal i ≡ false → (a : ℕ) → In (domains l i) a → (b : ℕ) × In (domains o.list i) b × Better P (domains l) i a b

  abbrev Trimming : ℕ → Play → ListRule → Type 0
  Trimming i p r = (l : List ℕ) → Masks n l → State P i p (domains l) → Trims i p l (r l)

  unruled_trims : (i : ℕ) (p : Play) → Trimming i p unruled
  unfolding unruled
  unruled_trims i p l w s = record {
    sound = record { law = refl; state = λ _. s; sub = λ j a l t. t; faith = λ m q g l z. refl };
    calm = refl;
    masks = w;
    off = λ j ne. refl;
    cover = λ s a m. (a, m, λ j l ne c k t. t);
  }

  if_so_trims : (b : Bool) (i : ℕ) (p : Play) (r : ListRule) → Trimming i p r → Trimming i p (if_so b r)
  unfolding if_so
  if_so_trims true i p r f = f
  if_so_trims false i p r f = unruled_trims i p

  next_trims : (i : ℕ) (p : Play) (r s : ListRule) → Trimming i p r → Trimming i p s → Trimming i p (and_next r s)
  unfolding and_next
  next_trims i p r s f g l w v =
      let h = f l w v in
      let k = g (r l).list h.masks (h.sound.state h.calm) in
      let q : start P (domains l) ≡ start P (domains (r l).list) = rw h.calm at h.sound.law in
      rw h.calm (record {
        sound = record {
          law = q ∙ k.sound.law;
          state = k.sound.state;
          sub = λ j a l t. h.sound.sub j a l (k.sound.sub j a l t);
          faith = λ m q g l z. h.sound.faith m q g l (λ j u. ((z j u).0, k.sound.sub j (q j) (z j u).0 (z j u).1)) ∙ k.sound.faith m q g l z;
        };
        calm = k.calm;
        masks = k.masks;
        off = λ j ne. k.off j ne ∙ h.off j ne;
        cover = λ z a m. let x = h.cover z a m in let y = k.cover z x.0 x.1 in
            (y.0, y.1, λ j l ne c u t. y.2 j l ne c (rw (h.off j ne) u) (x.2 j l ne c u t));
      })

  -- A rule that puts the values m for i's.
  replaced : (i : ℕ) (p : Play) (l e : List ℕ) (m : ℕ → Bool) → domains e ≡ replace (domains l) i m → Masks n e
      → Sound P i p (domains l) (record { loss = false; dom = replace (domains l) i m })
      → (universal i ≡ false → (a : ℕ) → In (domains l i) a → (b : ℕ) × In m b × Better P (domains l) i a b) → Trims i p l (record { loss = false; list = e })
  replaced i p l e m q w s c = record {
    sound = subst (λ (D : Domains). Sound P i p (domains l) (record { loss = false; dom = D })) (sym q) s;
    calm = refl;
    masks = w;
    off = λ j ne. ap (λ (D : Domains). D j) q ∙ replace_off (domains l) i m j ne;
    cover = λ z a h. let r = c z a h in (r.0, rw (q, replace_at (domains l) i m) r.1, r.2);
  }

  pure_trims : (i : ℕ) (p : Play) → i < n → Trimming i p (narrow_pure P i)
  unfolding narrow_pure Turn.purge purged
  pure_trims i p h l w s = replaced i p l _ (purged P (domains l) i) (OnLists.domains-purge P i l h w) (OnLists.purge_masks P i l h w) (Turn.purge_keeps P i p h (domains l) s)
      (λ z a m. rw z (go (some 16 (is_pure P (domains l) i) (λ b. true)) refl a m))
    where
      go : (e : Bool) → some 16 (is_pure P (domains l) i) (λ b. true) ≡ e → (a : ℕ) → In (domains l i) a
          → (b : ℕ) × In (λ c. cond e (lowest (is_pure P (domains l) i) c) (domains l i c)) b × Better P (domains l) i a b
      go true e a m =
          let o = some_out 16 (is_pure P (domains l) i) (λ b. true) (rw e tt) in
          let z = lowest_is (is_pure P (domains l) i) 16 o.0 o.1 o.2 in
          (z.0, (z.1, z.2), λ j l' ne c k t. pure_out P (domains l) i z.0 (lowest_out (is_pure P (domains l) i) z.0 z.2) j l' ne c k)
      go false e a m = (a, m, λ j l ne c k t. t)

  interchangeable_trims : (i : ℕ) (p : Play) → i < n → Trimming i p (narrow_interchangeable P i)
  unfolding narrow_interchangeable Turn.represent
  interchangeable_trims i p h l w s =
      replaced i p l _ (representatives P (domains l) i) (OnLists.domains-represent P i l h w) (OnLists.represent_masks P i l h w) (Turn.represent_keeps P i p h (domains l) s)
      (λ z a m. let r = Interchangeable.represented P (domains l) i 16 a m.0 (omega arith) m.1 in (r.0, r.1, λ j l' ne c k t. rw (r.2 j l' ne c k) t))

  pub narrow_next_trims : (S i : ℕ) (p : Play) → i < n → Trimming i p (narrow_next P S i)
  unfolding narrow_next
  narrow_next_trims S i p l =
      next_trims i p (if_so (uses S 4) (narrow_pure P i)) (if_so (uses S 5) (narrow_interchangeable P i))
      (if_so_trims (uses S 4) i p (narrow_pure P i) (pure_trims i p l)) (if_so_trims (uses S 5) i p (narrow_interchangeable P i) (interchangeable_trims i p l))
