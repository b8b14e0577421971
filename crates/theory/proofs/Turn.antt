-- The rules of a turn on domains, each of which keeps the turn, and all of them in their order under a rule set.
use mathlib.Core.Path.{◌≡◌, refl, ap, ◌∙◌}
use mathlib.Core.Bool.{Bool, true, false, cond, not, ◌&&◌, ◌||◌}
use Prim.Native.Nat.{ℕ, zero, suc, ◌+◌, ◌-◌, ◌*◌, ◌≤◌, ◌<◌}
use native.Mathlib.Omega.{arith}
use lib.Dec.{T, not_T, eqb, eqb→eq, eqb_refl, ltb, lt→ltb, ltb→lt}
use Rattle.game.specs.Arc.{sweep, sweeps}
use Rattle.mask.proofs.Logic.{same, holds, true_holds, clash, test, by_eq, and_in, and_out, by_lt}
use Rattle.mask.proofs.Range.{some_out, some_in}
use Rattle.mask.specs.Range.{some}
use Rattle.game.specs.Arc.{dead, arc_loss, barred}
use Rattle.game.specs.Forward.{forward_domains, forward_loss}
use Rattle.game.specs.Game.{put, satisfied, replace, narrow, Domains, Play}
use Rattle.game.specs.Interchangeable.{representatives}
use Rattle.game.specs.Problem.{Problem}
use Rattle.game.specs.Pure.{purged}
use Rattle.game.specs.Rule.{uses}
use Rattle.game.specs.Support.{empty, clashes}
use Rattle.theory.proofs.Arc
use Rattle.theory.proofs.Arc.{Toward, Part}
use Rattle.theory.proofs.Interchangeable
use Rattle.theory.proofs.Laws.{at, Played, Answers}
use Rattle.theory.proofs.Moves.{put_at, put_off, replace_at, replace_off}
use Rattle.theory.proofs.Pure
use Rattle.theory.proofs.Sound.{Rule, skip, and_then, State, Sound, Keeps, skip_keeps, then_keeps, choose_keeps}
use Rattle.theory.proofs.Swap.{start}
use Rattle.theory.proofs.Transfer
use Rattle.theory.proofs.Transfer.{In}

module _ (P : Problem) where
  open P use {n, universal, compatible, symmetric}

  -- A sweep leaves a part, takes out dead values alone, and so on for many.
  pub sweep-part : (D : Domains) → Part P D (sweep P D)
  unfolding sweep
  sweep-part D = record {
    sub = λ j a t. (and_out (universal j || not (dead P D j a)) (D j a) t).1;
    keep = λ j a s t. and_in (universal j || not (dead P D j a)) (D j a) (rw s tt) t;
  }

  pub sweep_cut : (D : Domains) (j a : ℕ) → universal j ≡ false → T (D j a) → sweep P D j a ≡ false → T (dead P D j a)
  unfolding sweep
  sweep_cut D j a s m e = go (universal j) s (dead P D j a) (D j a) m e
    where
      go : (b : Bool) → b ≡ false → (d m : Bool) → T m → ((b || not d) && m) ≡ false → T d
      go true z d m t e = absurd (clash z tt)
      go false z true m t e = tt
      go false z false m t e = absurd (clash e t)

  pub sweeps_toward : (k : ℕ) (D E : Domains) (v : Play) → Answers P D v → Toward P D E → Toward P D (sweeps P k E)
  unfolding sweeps
  sweeps_toward zero D E v f w = w
  sweeps_toward (suc k) D E v f w =
      sweeps_toward k D (sweep P E) v f (Arc.toward_step P D E (sweep P E) v f w (sweep-part E) (λ j l s a m e. sweep_cut E j a s m.1 e))

  -- A domain that is not empty has a value.
  pub value_left : (E : Domains) (j : ℕ) → (T (empty P E j) → ⊥) → (b : ℕ) × In (E j) b
  unfolding empty
  value_left E j h =
      test (some 16 (E j) (λ a. true)) (λ t. let r = some_out 16 (E j) (λ a. true) t in (r.0, (r.1, r.2)))
      (λ e. absurd (h (not_T (some 16 (E j) (λ a. true)) (clash e))))

  -- A value goes with each of a domain that it clashes with none of.
  pub unclashed_goes : (D : Domains) (x a y b : ℕ) → b < 16 → T (D y b) → clashes P D x a y ≡ false → T (compatible x a y b)
  unfolding clashes
  unclashed_goes D x a y b lb at_y e =
      test (compatible x a y b) (λ t. t) (λ f. absurd (clash e (some_in 16 (D y) (λ v. not (compatible x a y v)) b lb at_y (true_holds (ap not f)))))

  -- Rule 1.
  unfoldable pub arc : Rule
  arc D = let E = sweeps P (16 * n) D in record { loss = arc_loss P E; dom = E }

  -- Without a loss an existential domain is not empty.
  pub not_lost : (E : Domains) → arc_loss P E ≡ false → (j : ℕ) → j < n → universal j ≡ false → (b : ℕ) × In (E j) b
  unfolding arc_loss
  not_lost E e j l s = value_left E j λ t. clash e
      (some_in n (λ x. true) (λ x. cond (universal x) (some 16 (E x) (λ a. some n (P.constrained x) (barred P E x a))) (empty P E x)) j l tt (rw s t))

  -- Removals in any order keep a turn, and so the closure does.
  pub toward_keeps : (i : ℕ) (p : Play) → i ≤ n → (D E : Domains) → State P i p D → Toward P D E → Sound P i p D (record { loss = arc_loss P E; dom = E })
  toward_keeps i p li D E w tw = record {
    law = Arc.arc_law P D E w.foe w.foe_in tw;
    sub = λ j a l t. tw.part.sub j a t;
    faith = λ m q g l z. tw.verdict m q l z;
    state = λ e. record {
      played = λ j l. (((w.played j l).0.0, stays e j l (universal j) refl), λ a m. (w.played j l).1 a (m.0, tw.part.sub j a m.1));
      foe = w.foe;
      foe_in = λ j l s. ((w.foe_in j l s).0, tw.part.keep j (w.foe j) s (w.foe_in j l s).1);
    };
  }
    where
      stays : arc_loss P E ≡ false → (j : ℕ) → j < i → (s : Bool) → universal j ≡ s → T (E j (p j))
      stays e j l true s = tw.part.keep j (p j) s (w.played j l).0.1
      stays e j l false s =
          let r = not_lost E e j (omega arith) s in
          rw ((w.played j l).1 r.0 (r.1.0, tw.part.sub j r.0 r.1.1)) at r.1.1

  pub arc_keeps : (i : ℕ) (p : Play) → i ≤ n → Keeps P i p arc
  unfolding arc
  arc_keeps i p li D w = toward_keeps i p li D (sweeps P (16 * n) D) w (sweeps_toward (16 * n) D D w.foe w.foe_in (Arc.toward_refl P D))

  -- Rule 2, for the value of variable x.
  unfoldable pub check : ℕ → Play → Rule
  check x p D = record { loss = forward_loss P D x (p x); dom = forward_domains P D x (p x) }

  -- A played variable is narrowed already.
  pub narrow-played : (i x : ℕ) (p : Play) (D : Domains) → x < i → Played P D i p → (j a : ℕ) → a < 16 → D j a ≡ narrow D x (p x) j a
  narrow-played i x p D l h j a k =
      by_eq j x (λ e. rw (e, replace_at D x (λ b. eqb b (p x))) (same (D x a) (eqb a (p x)) (λ t. rw ((h x l).1 a (k, t)) (eqb_refl (p x)))
      (λ t. rw (eqb→eq a (p x) t) (h x l).0.1))) (λ e. rw (replace_off D x (λ b. eqb b (p x)) j e))

  -- An existential domain that is emptied is a loss.
  pub forward_loses_at : (D : Domains) (x a j : ℕ) → j < n → universal j ≡ false → x < j → T (empty P (forward_domains P D x a) j) → T (forward_loss P D x a)
  unfolding forward_loss
  forward_loses_at D x a j l s k t =
      some_in n (ltb x) (λ j. cond (universal j) (clashes P D x a j) (empty P (forward_domains P D x a) j)) j l (lt→ltb x j k) (rw s t)

  -- The check of a play keeps the turn.
  pub check_keeps : (i : ℕ) (p : Play) → i ≤ n → (x : ℕ) → x < i → Keeps P i p (check x p)
  unfolding check
  check_keeps i p li x lx D w = record {
    sub = sub;
    faith = λ m q g l z.
        Transfer.congruent n universal (satisfied compatible n) D (narrow D x (p x)) m (λ j g l a k. narrow-played i x p D lx w.played j a k) q l
        ∙ Arc.forward_same_at P D w.foe w.foe_in x (p x) (omega arith) (w.played x lx).0.0 m q l
        (λ j u. ((z j u).0, Arc.forward_sub P D w.foe w.foe_in x (p x) (omega arith) (w.played x lx).0.0 j (q j) (z j u).1));
    law = Transfer.congruent n universal (satisfied compatible n) D (narrow D x (p x)) 0 (λ j g l a k. narrow-played i x p D lx w.played j a k) (λ j. 0) (omega arith)
        ∙ Arc.forward_law P D w.foe w.foe_in x (p x) (omega arith) (w.played x lx).0.0;
    state = λ e. record {
      played = λ j l. (((w.played j l).0.0, stays e j l (universal j) refl), λ a m. (w.played j l).1 a (m.0, sub j a m.0 m.1));
      foe = put w.foe x (p x);
      foe_in = Arc.forward_answers P D w.foe w.foe_in x (p x) (omega arith) (w.played x lx).0.0;
    };
  }
    where
      F : Domains
      F = forward_domains P D x (p x)

      sub : (j a : ℕ) → a < 16 → T (F j a) → T (D j a)
      sub j a k t = rw (narrow-played i x p D lx w.played j a k) (Arc.forward_sub P D w.foe w.foe_in x (p x) (omega arith) (w.played x lx).0.0 j a t)

      back : (j : ℕ) → j < i → (universal j ≡ false → x < j → ⊥) → T (F j (p j))
      back j l h = Arc.forward-keep P D w.foe w.foe_in x (p x) (omega arith) (w.played x lx).0.0 j (p j) (λ s ne k. absurd (h s k))
          (rw (narrow-played i x p D lx w.played j (p j) (w.played j l).0.0) at (w.played j l).0.1)

      some_left : forward_loss P D x (p x) ≡ false → (j : ℕ) → j < n → universal j ≡ false → x < j → (b : ℕ) × In (F j) b
      some_left e j l s k = value_left F j λ t. clash e (forward_loses_at D x (p x) j l s k t)

      stays : forward_loss P D x (p x) ≡ false → (j : ℕ) → j < i → (s : Bool) → universal j ≡ s → T (F j (p j))
      stays e j l true s = back j l (λ z. absurd (clash z (rw s tt)))
      stays e j l false s = by_lt x j (λ k. let r = some_left e j (omega arith) s k in rw ((w.played j l).1 r.0 (r.1.0, sub j r.0 r.1.0 r.1.1)) at r.1.1)
          (λ k. back j l (λ z g. omega arith))

  -- Rule 2, for the k values from variable x on.
  unfoldable pub checks : ℕ → ℕ → Play → Rule
  checks zero x p = skip
  checks (suc k) x p = and_then (check x p) (checks k (suc x) p)

  pub checks_keeps : (i : ℕ) (p : Play) → i ≤ n → (k x : ℕ) → k + x ≤ i → Keeps P i p (checks k x p)
  unfolding checks
  checks_keeps i p l zero x h = skip_keeps P i p
  checks_keeps i p l (suc k) x h = then_keeps P i p (check x p) (checks k (suc x) p) (check_keeps i p l x (omega arith)) (checks_keeps i p l k (suc x) (omega arith))

  -- Rules 3, 4 and 5, at variable i.
  unfoldable pub ahead : ℕ → Rule
  ahead i D = record { loss = universal i && some 16 (D i) (λ a. forward_loss P D i a); dom = D }

  unfoldable pub purge : ℕ → Rule
  purge i D = record { loss = false; dom = replace D i (purged P D i) }

  unfoldable pub represent : ℕ → Rule
  represent i D = record { loss = false; dom = replace D i (representatives P D i) }

  pub ahead_keeps : (i : ℕ) (p : Play) → i < n → Keeps P i p (ahead i)
  unfolding ahead
  ahead_keeps i p l D w = record {
    law = test (universal i && some 16 (D i) (λ a. forward_loss P D i a)) (λ t. rw (holds {b = universal i && some 16 (D i) (λ a. forward_loss P D i a)} t) (go t)) (λ e. rw e);
    state = λ _. w;
    sub = λ j a l t. t;
    faith = λ m q g l z. refl;
  }
    where
      go : T (universal i && some 16 (D i) (λ a. forward_loss P D i a)) → start P D ≡ false
      go t =
          let q = and_out (universal i) (some 16 (D i) (λ a. forward_loss P D i a)) t in
          let r = some_out 16 (D i) (λ a. forward_loss P D i a) q.1 in
          Arc.ahead_law P D w.foe w.foe_in i r.0 l r.1 (holds q.0) r.2 r.3

  -- Variable i's domain cut down to m: the state, a part, the deeper positions.
  state_replace : (i : ℕ) (p : Play) (D : Domains) (m : ℕ → Bool) → State P i p D → (universal i ≡ true → (b : ℕ) × In m b) → State P i p (replace D i m)
  state_replace i p D m w f = go (universal i) refl
    where
      pl : (j : ℕ) → j < i → In (replace D i m j) (p j) × ((a : ℕ) → In (replace D i m j) a → a ≡ p j)
      pl j l = rw (replace_off D i m j (omega arith)) (w.played j l)

      go : (s : Bool) → universal i ≡ s → State P i p (replace D i m)
      go true s =
          let b = f s in record {
            played = pl;
            foe = put w.foe i b.0;
            foe_in = λ j l z.
                by_eq j i (λ e. rw (e, replace_at D i m, put_at w.foe i b.0) b.1)
                (λ e. rw (replace_off D i m j e, put_off w.foe i b.0 j e) (w.foe_in j l z));
          }
      go false s = record {
        played = pl;
        foe = w.foe;
        foe_in = λ j l z.
            by_eq j i (λ e. absurd (clash s (rw (← e, z) tt))) (λ e. rw (replace_off D i m j e) (w.foe_in j l z));
      }

  replace_sub : (i : ℕ) (D : Domains) (m : ℕ → Bool) → ((a : ℕ) → T (m a) → T (D i a)) → (j a : ℕ) → a < 16 → T (replace D i m j a) → T (D j a)
  replace_sub i D m f j a l t =
      by_eq j i (λ e. rw e (f a (rw (e, replace_at D i m) at t))) (λ e. rw (replace_off D i m j e) at t)

  replace_faith : (i : ℕ) (D : Domains) (m : ℕ → Bool) (k : ℕ) (q : Play) → i < k → k ≤ n → at P D k q ≡ at P (replace D i m) k q
  replace_faith i D m k q g l = Transfer.congruent n universal (satisfied compatible n) D (replace D i m) k (λ j h u a v. rw (replace_off D i m j (omega arith))) q l

  pub purge_keeps : (i : ℕ) (p : Play) → i < n → Keeps P i p (purge i)
  unfolding purge
  purge_keeps i p l D w = record {
    law = Pure.pure_law P D i l (λ s. (w.foe i, w.foe_in i l s));
    state = λ _. state_replace i p D (purged P D i) w (λ s. Pure.purged-some P D i (w.foe i) s (w.foe_in i l s));
    sub = replace_sub i D (purged P D i) (Pure.purged_in P D i);
    faith = λ m q g h z. replace_faith i D (purged P D i) m q g h;
  }

  pub represent_keeps : (i : ℕ) (p : Play) → i < n → Keeps P i p (represent i)
  unfolding represent
  represent_keeps i p l D w = record {
    law = Interchangeable.interchangeable_law P D i l;
    state = λ _. state_replace i p D (representatives P D i) w (λ s. let m = w.foe_in i l s in let r = Interchangeable.represented P D i 16 (w.foe i) m.0 (omega arith) m.1 in (r.0, r.1));
    sub = replace_sub i D (representatives P D i) (Interchangeable.representatives_in_lem P D i);
    faith = λ m q g h z. replace_faith i D (representatives P D i) m q g h;
  }

  -- The rules of a turn after i plays, of which those from c on are not yet checked.
  unfoldable pub turn-rules : ℕ → ℕ → ℕ → Play → Rule
  turn-rules R c i p =
      and_then (cond (uses R 2) (checks (i - c) c p) skip) (and_then (cond (uses R 1) arc skip)
      (cond (ltb i n) (and_then (cond (uses R 3) (ahead i) skip) (and_then (cond (uses R 4) (purge i) skip) (cond (uses R 5) (represent i) skip))) skip))

  -- A turn keeps the state, whatever its set.
  pub turn_keeps : (R : ℕ) (c i : ℕ) (p : Play) → c ≤ i → i ≤ n → Keeps P i p (turn-rules R c i p)
  unfolding turn-rules
  turn_keeps R c i p h l =
      then_keeps P i p (cond (uses R 2) (checks (i - c) c p) skip) rest
      (choose_keeps P (uses R 2) i p (checks (i - c) c p) skip (checks_keeps i p l (i - c) c (omega arith)) (skip_keeps P i p))
      (then_keeps P i p (cond (uses R 1) arc skip) late (choose_keeps P (uses R 1) i p arc skip (arc_keeps i p l) (skip_keeps P i p))
      (test (ltb i n) (λ t. rw (holds {b = ltb i n} t) (turns (ltb→lt i n t))) (λ e. rw e (skip_keeps P i p))))
    where
      own : Rule
      own = and_then (cond (uses R 3) (ahead i) skip) (and_then (cond (uses R 4) (purge i) skip) (cond (uses R 5) (represent i) skip))

      late : Rule
      late = cond (ltb i n) own skip

      rest : Rule
      rest = and_then (cond (uses R 1) arc skip) late

      turns : i < n → Keeps P i p own
      turns k =
          then_keeps P i p (cond (uses R 3) (ahead i) skip) (and_then (cond (uses R 4) (purge i) skip) (cond (uses R 5) (represent i) skip))
          (choose_keeps P (uses R 3) i p (ahead i) skip (ahead_keeps i p k) (skip_keeps P i p))
          (then_keeps P i p (cond (uses R 4) (purge i) skip) (cond (uses R 5) (represent i) skip)
          (choose_keeps P (uses R 4) i p (purge i) skip (purge_keeps i p k) (skip_keeps P i p))
          (choose_keeps P (uses R 5) i p (represent i) skip (represent_keeps i p k) (skip_keeps P i p)))
