-- Rules 1 to 3 with reasons: each keeps the verdict and the reasons' invariant, and the conflict set of its loss loses.
use mathlib.Core.Path.{◌≡◌, refl, sym, subst, ◌∙◌}
use mathlib.Core.Bool.{Bool, true, false, cond, not, ◌&&◌}
use mathlib.Core.List.{List}
use mathlib.Core.Logic.{inl}
use Prim.Native.Nat.{ℕ, zero, suc, ◌+◌, ◌-◌, ◌≤◌, ◌<◌}
use native.Mathlib.Omega.{arith}
use lib.Dec.{T, T_not, eqb, ltb, ltb→lt}
use lib.Bits.{bit_or}
use lib.ListN.{get_or, length}
use borrow.Author.Tests.{lt-ltb, le-ltb, ne_eqb}
use Rattle.mask.specs.Range.{some, first}
use Rattle.mask.specs.Mask.{bit}
use Rattle.mask.proofs.Logic.{holds, clash, by_lt, and_in, and_out}
use Rattle.mask.proofs.Range.{some_out, some_in, first_of, first_in}
use Rattle.game.specs.Problem.{Problem}
use Rattle.game.specs.Game.{narrow, Domains, Play}
use Rattle.game.specs.Lists.{domains}
use Rattle.game.specs.Position.{play_of}
use Rattle.game.specs.Support.{empty, clashes, alone}
use Rattle.game.specs.Rule.{uses}
use Rattle.game.specs.Arc.{arc_loss, barred}
use Rattle.game.specs.Forward.{forward_domains, forward_loss, forward, forward_named}
use Rattle.game.specs.LookAhead.{ahead_loss, look_ahead, ahead_named}
use Rattle.game.specs.Reasons.{Step, Ruling, idle, chain, choose, Sheet, neighbours, forward_conflict, forward_reasons, explain_forward, explain_checks, revisions, emptied, against, arc_conflict, explain_arc, explain_ahead, explained}
use Rattle.theory.specs.AnyOrder.{Formed, Revisions}
use Rattle.theory.proofs.Transfer.{In}
use Rattle.theory.proofs.Swap.{start}
use Rattle.theory.proofs.Laws.{Answers}
use Rattle.theory.proofs.Moves.{replace_off}
use Rattle.theory.proofs.Arc
use Rattle.theory.proofs.Sound.{State, Sound}
use Rattle.theory.proofs.Turn
use Rattle.theory.proofs.Lists.{length-list_of, get_d_list_of}
use Rattle.theory.proofs.OnLists
use Rattle.theory.proofs.Conflict.{Conflict, conflict_more}
use Rattle.theory.proofs.Reasons
use Rattle.theory.proofs.Reasons.{Told, Cut}
use Rattle.theory.proofs.ReasonLists.{in_left, in_right, in_out, in_list}
use Rattle.theory.proofs.Revisions

module _ (P : Problem) (F : Domains) (foe : Play) (foe_in : Answers P F foe) where
  open P use {n, universal, compatible, symmetric, constrained, apart}

  -- A list and its reasons at a turn after the first i values of p.
  pub record Ready (i : ℕ) (p : Play) (l R : List ℕ) : Type 0 where
    pub formed : Formed P (record { list = l; why = R })
    pub state : State P i p (domains l)
    pub told : Told P F foe foe_in i p (domains l) (domains R)

  -- A rule with reasons is sound at a turn.
  pub record Just (i : ℕ) (p : Play) (l : List ℕ) (o : Step) : Type 0 where
    pub verdict : Sound P i p (domains l) (record { loss = o.loss; dom = domains o.list })
    pub conflict : o.loss ≡ true → Conflict P F (bit o.set) i p
    pub formed : Formed P (record { list = o.list; why = o.why })
    pub told : o.loss ≡ false → Told P F foe foe_in i p (domains o.list) (domains o.why)

  pub just_ready : (i : ℕ) (p : Play) (l : List ℕ) (o : Step) → Just i p l o → o.loss ≡ false → Ready i p o.list o.why
  just_ready i p l o h e = record { formed = h.formed; state = h.verdict.state e; told = h.told e }

  abbrev pub Holds : ℕ → Play → Ruling → Type 0
  Holds i p r = (l R : List ℕ) → Ready i p l R → Just i p l (r l R)

  pub idle_holds : (i : ℕ) (p : Play) → Holds i p idle
  unfolding idle
  idle_holds i p l R w = record {
    verdict = record { law = refl; state = λ _. w.state; sub = λ j a l t. t; faith = λ m q g l z. refl };
    conflict = λ e. absurd (clash (sym e) tt);
    formed = w.formed;
    told = λ _. w.told;
  }

  pub chain_holds : (i : ℕ) (p : Play) (r s : Ruling) → Holds i p r → Holds i p s → Holds i p (chain r s)
  unfolding chain
  chain_holds i p r s f g l R w = go (r l R).loss refl (f l R w)
    where
      go : (b : Bool) → (r l R).loss ≡ b → Just i p l (r l R) → Just i p l (cond b (r l R) (s (r l R).list (r l R).why))
      go true e h = h
      go false e h =
          let k = g (r l R).list (r l R).why (just_ready i p l (r l R) h e) in
          let q : start P (domains l) ≡ start P (domains (r l R).list) = rw e at h.verdict.law in
          record {
            verdict = record {
              law = q ∙ k.verdict.law;
              state = k.verdict.state;
              sub = λ j a l t. h.verdict.sub j a l (k.verdict.sub j a l t);
              faith = λ m q g l z. h.verdict.faith m q g l (λ j u. ((z j u).0, k.verdict.sub j (q j) (z j u).0 (z j u).1)) ∙ k.verdict.faith m q g l z;
            };
            conflict = k.conflict;
            formed = k.formed;
            told = k.told;
          }

  pub choose_holds : (b : Bool) (i : ℕ) (p : Play) (r : Ruling) → (T b → Holds i p r) → Holds i p (choose b r)
  unfolding choose
  choose_holds true i p r f = f tt
  choose_holds false i p r f = idle_holds i p

  empty_out : (D : Domains) (x : ℕ) → T (empty P D x) → (b : ℕ) → In (D x) b → ⊥
  unfolding empty
  empty_out D x t b m = T_not (some 16 (D x) (λ a. true)) t (some_in 16 (D x) (λ a. true) b m.0 m.1 tt)

  -- Rule 2 ---------------------------------------------------------------------------------------------------------------
  -- What is in the conflict set of a forward check: the reason of k, and that of the variable that the loss names.
  conflict-own : (l R : List ℕ) (k a j : ℕ) → T (domains R k j) → T (bit (forward_conflict P l R k a) j)
  unfolding forward_conflict domains
  conflict-own l R k a j t = let x = forward_named P k a l in in_left (get_or R k 0) (bit_or (get_or R x 0) (neighbours P x)) j t

  conflict_at : (l R : List ℕ) (k a j : ℕ) → T (domains R (forward_named P k a l) j) → T (bit (forward_conflict P l R k a) j)
  unfolding forward_conflict domains
  conflict_at l R k a j t =
      let x = forward_named P k a l in in_right (get_or R k 0) (bit_or (get_or R x 0) (neighbours P x)) j (in_left (get_or R x 0) (neighbours P x) j t)

  -- The reasons after a check: none is lost, and a variable that lost a value has the reason of k.
  module _ (l R : List ℕ) (w : Formed P (record { list = l; why = R })) (k a : ℕ) (lk : k < n) (la : a < 16) where
    row : ℕ → ℕ
    row j = cond (eqb (get_or (forward P k a l).list j 0) (get_or l j 0)) (get_or R j 0) (bit_or (get_or R j 0) (get_or R k 0))

    reason : (j : ℕ) → j < n → get_or (forward_reasons P l R k a) j 0 ≡ row j
    unfolding forward_reasons row
    reason j h = get_d_list_of n (λ j. cond (eqb (get_or (forward P k a l).list j 0) (get_or l j 0)) (get_or R j 0) (bit_or (get_or R j 0) (get_or R k 0))) j h

    reasons_length : length (forward_reasons P l R k a) ≡ n
    unfolding forward_reasons
    reasons_length = length-list_of n (λ j. cond (eqb (get_or (forward P k a l).list j 0) (get_or l j 0)) (get_or R j 0) (bit_or (get_or R j 0) (get_or R k 0)))

    after : domains (forward P k a l).list ≡ forward_domains P (domains l) k a
    after = OnLists.domains-forward P k a l lk la w.masks

    reasons_more : (j m : ℕ) → T (domains R j m) → T (domains (forward_reasons P l R k a) j m)
    unfolding domains row
    reasons_more j m t =
        let h : j < n = let e = w.sized in let q = in_list R j m t in omega arith in
        rw (reason j h) (go (eqb (get_or (forward P k a l).list j 0) (get_or l j 0)))
      where
        go : (b : Bool) → T (bit (cond b (get_or R j 0) (bit_or (get_or R j 0) (get_or R k 0))) m)
        go true = t
        go false = in_left (get_or R j 0) (get_or R k 0) m t

    reasons_in : (x b : ℕ) → x < n → T (domains l x b) → forward_domains P (domains l) k a x b ≡ false → (m : ℕ) → T (domains R k m) → T (domains (forward_reasons P l R k a) x m)
    unfolding domains row
    reasons_in x b lx t e m u =
        let ne : ¬ (get_or (forward P k a l).list x 0 ≡ get_or l x 0) = λ z.
        clash e (subst (λ (D : Domains). T (D x b)) after (subst (λ (v : ℕ). T (bit v b)) (sym z) t)) in
        rw (reason x lx, ne_eqb (get_or (forward P k a l).list x 0) (get_or l x 0) ne) (in_right (get_or R x 0) (get_or R k 0) m u)

    reasons_out : {A : Type 0} (x : ℕ) → x < n → (m : ℕ) → T (domains (forward_reasons P l R k a) x m) → (T (domains R x m) → A) → (T (domains R k m) → A) → A
    unfolding domains row
    reasons_out {A = A} x lx m t f g = go (eqb (get_or (forward P k a l).list x 0) (get_or l x 0)) (rw (reason x lx) at t)
      where
        go : (b : Bool) → T (bit (cond b (get_or R x 0) (bit_or (get_or R x 0) (get_or R k 0))) m) → A
        go true t = f t
        go false t = in_out (get_or R x 0) (get_or R k 0) m t f g

  -- A check is a removal with reasons.
  check_cut : (i : ℕ) (p : Play) (l R : List ℕ) → i ≤ n → (k : ℕ) → k < i → Ready i p l R → Cut P F foe foe_in (domains l) (domains R) (forward_domains P (domains l) k (p k)) (domains (forward_reasons P l R k (p k)))
  check_cut i p l R li k lk w = record {
    less = λ j a h t. rw (Turn.narrow-played P i k p D lk s.played j a h) (Arc.forward_sub P D s.foe s.foe_in k (p k) (omega arith) (s.played k lk).0.0 j a t);
    more = reasons_more l R w.formed k (p k) (omega arith) (s.played k lk).0.0;
    dies = λ x lx a m e.
        let one : T (narrow D k (p k) x a) = rw (Turn.narrow-played P i k p D lk s.played x a m.0) at m.1 in
        let keep = Arc.forward-keep P D s.foe s.foe_in k (p k) (omega arith) (s.played k lk).0.0 x a in (
          k,
          (
            omega arith,
            (λ z. clash e (keep (λ _ ne _. absurd (ne z)) one)),
            reasons_in l R w.formed k (p k) (omega arith) (s.played k lk).0.0 x a lx m.1 e,
            inl (λ b k' g. clash e (keep (λ _ _ _. rw (symmetric k (p k) x a, ← ((s.played k lk).1 b k')) g) one)),
          ),
        );
  }
    where
      D : Domains
      D = domains l

      s : State P i p (domains l)
      s = w.state

  pub explain_forward_holds : (i : ℕ) (p : Play) → i ≤ n → (k : ℕ) → k < i → Holds i p (explain_forward P k (p k))
  unfolding explain_forward forward Turn.check
  explain_forward_holds i p li k lk l R w = record {
    verdict = subst (λ (E : Domains). Sound P i p (domains l) (record { loss = forward_loss P (domains l) k (p k); dom = E })) (sym same_list) (Turn.check_keeps P i p li k lk (domains l) w.state);
    conflict = λ e. let x = OnLists.forward_named_lem P k (p k) l (rw e tt) in go x.1 x.0 (universal (forward_named P k (p k) l)) refl x.2;
    formed = record { masks = OnLists.forward_masks P k (p k) l; sized = reasons_length l R w.formed k (p k) lk' la };
    told = λ _. rw same_list told';
  }
    where
      lk' : k < n
      lk' = omega arith

      la : p k < 16
      la = (w.state.played k lk).0.0

      same_list : domains (forward P k (p k) l).list ≡ forward_domains P (domains l) k (p k)
      same_list = OnLists.domains-forward P k (p k) l lk' la w.formed.masks

      told' : Told P F foe foe_in i p (forward_domains P (domains l) k (p k)) (domains (forward_reasons P l R k (p k)))
      told' = Reasons.told_cut P F foe foe_in i p (domains l) (domains R) (forward_domains P (domains l) k (p k)) (domains (forward_reasons P l R k (p k))) li w.told (check_cut i p l R li k lk w)

      x : ℕ
      x = forward_named P k (p k) l

      set : ℕ
      set = forward_conflict P l R k (p k)

      go : x < n → k < x → (s : Bool) → universal x ≡ s → T (cond s (clashes P (domains l) k (p k) x) (empty P (forward_domains P (domains l) k (p k)) x)) → Conflict P F (bit set) i p
      go lx h true s u =
          let c = Arc.clashes_out P (domains l) w.state.foe w.state.foe_in k (p k) x u in
          Reasons.conflict_faced P F foe foe_in i p (domains l) (domains R) li w.told (bit set) k (p k) x c.0 h lx s (w.state.played k lk).1 c.1 c.2
          (conflict-own l R k (p k)) (conflict_at l R k (p k))
      go lx h false s u =
          conflict_more P F (domains (forward_reasons P l R k (p k)) x) (bit set) i p
          (λ j _ v. reasons_out l R w.formed k (p k) lk' la x lx j v (conflict_at l R k (p k) j) (conflict-own l R k (p k) j))
          (Reasons.conflict-empty P F foe foe_in i p (forward_domains P (domains l) k (p k)) (domains (forward_reasons P l R k (p k))) li told' x lx (empty_out (forward_domains P (domains l) k (p k)) x u))

  pub explain_checks_hold : (i : ℕ) (p : List ℕ) → i ≤ n → (k x : ℕ) → k + x ≤ i → Holds i (play_of p) (explain_checks P k x p)
  unfolding explain_checks play_of
  explain_checks_hold i p l zero x h = idle_holds i (play_of p)
  explain_checks_hold i p l (suc k) x h =
      chain_holds i (play_of p) (explain_forward P x (get_or p x 0)) (explain_checks P k (suc x) p) (explain_forward_holds i (play_of p) l x (omega arith)) (explain_checks_hold i p l k (suc x) (omega arith))

  -- Rule 3 ---------------------------------------------------------------------------------------------------------------
  explain_ahead_holds : (i : ℕ) (p : Play) → i < n → Holds i p (explain_ahead P i)
  unfolding explain_ahead Turn.ahead look_ahead ahead_loss
  explain_ahead_holds i p li l R w = record {
    verdict = Turn.ahead_keeps P i p li (domains l) w.state;
    conflict = λ e. let r = OnLists.ahead_named_lem P i l (rw e tt) in
        let x = OnLists.forward_named_lem P i a l r.2 in
        go (holds {b = universal i} (and_out (universal i) (some 16 (D i) (λ a. forward_loss P D i a)) (rw e tt)).0) (r.0, r.1) x.1 x.0 (universal (forward_named P i a l)) refl x.2;
    formed = w.formed;
    told = λ _. w.told;
  }
    where
      D : Domains
      D = domains l

      a : ℕ
      a = ahead_named P i l

      set : ℕ
      set = forward_conflict P l R i a

      x : ℕ
      x = forward_named P i a l

      go : universal i ≡ true → In (D i) a → x < n → i < x → (s : Bool) → universal x ≡ s → T (cond s (clashes P D i a x) (empty P (forward_domains P D i a) x)) → Conflict P F (bit set) i p
      go si m lx h true s u =
          let c = Arc.clashes_out P D w.state.foe w.state.foe_in i a x u in
          Reasons.conflict-both P F foe foe_in i p D (domains R) (omega arith) w.told (bit set) i a x c.0 li lx (omega arith) si s m c.1 c.2 (conflict-own l R i a) (conflict_at l R i a)
      go si m lx h false s u =
          Reasons.conflict-alone P F foe foe_in i p D (domains R) (omega arith) w.told (bit set) i a x li lx (omega arith) si m
          (λ b c g. empty_out (forward_domains P D i a) x u b (c.0, Arc.forward-keep P D w.state.foe w.state.foe_in i a li m.0 x b (λ _ _ _. g) (rw (replace_off D i (λ b. eqb b a) x (omega arith)) c.1)))
          (conflict-own l R i a) (conflict_at l R i a)

  -- Rule 1 ---------------------------------------------------------------------------------------------------------------
  -- The conflict set of an arc loss loses, whatever list and reasons the revisions left.
  arc_conflict_loses : (i : ℕ) (p : Play) (l R : List ℕ) → i ≤ n → (v : Play) → Answers P (domains l) v → Told P F foe foe_in i p (domains l) (domains R) → T (arc_loss P (domains l)) → Conflict P F (bit (arc_conflict P l R)) i p
  unfolding arc_loss arc_conflict emptied against barred domains
  arc_conflict_loses i p l R li v f w t = by_lt x n
      (λ h. rw (lt-ltb x n h) (by_empty h)) (λ h. rw (le-ltb x n h) (by_bar h))
    where
      D : Domains
      D = domains l

      x : ℕ
      x = first n (emptied P D)

      bars : ℕ → Bool
      bars y = some n (against P D y) (λ k. true)

      y : ℕ
      y = first n bars

      k : ℕ
      k = first n (against P D y)

      by_empty : x < n → Conflict P F (bit (get_or R x 0)) i p
      by_empty h = Reasons.conflict-empty P F foe foe_in i p D (domains R) li w x h (empty_out D x (and_out (not (universal x)) (empty P D x) (first_of n (emptied P D) h)).1)

      two : ℕ
      two = bit_or (get_or R y 0) (get_or R k 0)

      -- Some pair is barred.
      barring : n ≤ x → (y : ℕ) × (y < n) × T (bars y)
      barring g =
          let r = some_out n (λ x. true) (λ x. cond (universal x) (some 16 (D x) (λ a. some n (constrained x) (barred P D x a))) (empty P D x)) t in
          go r.0 r.1 (universal r.0) refl r.3
        where
          go : (z : ℕ) → z < n → (s : Bool) → universal z ≡ s → T (cond s (some 16 (D z) (λ a. some n (constrained z) (barred P D z a))) (empty P D z)) → (y : ℕ) × (y < n) × T (bars y)
          go z h true s t =
              let r = some_out 16 (D z) (λ a. some n (constrained z) (barred P D z a)) t in
              let q = some_out n (constrained z) (barred P D z r.0) r.3 in
              let b = some_in 16 (D z) (λ a. barred P D z a q.0) r.0 r.1 r.2 q.3 in (
                z,
                h,
                some_in n (against P D z) (λ k. true) q.0 q.1
                    (and_in (universal z) (constrained z q.0 && some 16 (D z) (λ a. barred P D z a q.0)) (rw s tt) (and_in (constrained z q.0) (some 16 (D z) (λ a. barred P D z a q.0)) q.2 b)) tt,
              )
          go z h false s t =
              let m = (first_in n (emptied P D) z h (and_in (not (universal z)) (empty P D z) (rw s tt) t)).0 in absurd (omega arith)

      pair : (a : ℕ) → y < n → k < n → ¬ (y ≡ k) → universal y ≡ true → In (D y) a → (s : Bool) → universal k ≡ s → T (cond s (clashes P D y a k) (ltb y k && alone P D y a k)) → Conflict P F (bit two) i p
      pair a ly lk ne sy m true s t =
          let c = Arc.clashes_out P D v f y a k t in
          Reasons.conflict-both P F foe foe_in i p D (domains R) li w (bit two) y a k c.0 ly lk ne sy s m c.1 c.2 (in_left (get_or R y 0) (get_or R k 0)) (in_right (get_or R y 0) (get_or R k 0))
      pair a ly lk ne sy m false s t =
          Reasons.conflict-alone P F foe foe_in i p D (domains R) li w (bit two) y a k ly lk ne sy m (Arc.alone_out P D v f y a k (and_out (ltb y k) (alone P D y a k) t).1)
          (in_left (get_or R y 0) (get_or R k 0)) (in_right (get_or R y 0) (get_or R k 0))

      by_bar : n ≤ x → Conflict P F (bit two) i p
      by_bar h =
          let b = barring h in
          let z = first_in n bars b.0 b.1 b.2 in
          let r = some_out n (against P D y) (λ k. true) z.1 in
          let q = first_in n (against P D y) r.0 r.1 r.2 in
          let c = and_out (universal y) (constrained y k && some 16 (D y) (λ a. barred P D y a k)) q.1 in
          let d = and_out (constrained y k) (some 16 (D y) (λ a. barred P D y a k)) c.1 in
          let a = some_out 16 (D y) (λ a. barred P D y a k) d.1 in
          pair a.0 z.0 q.0 (apart y k d.0) (holds {b = universal y} c.0) (a.1, a.2) (universal k) refl a.3

  -- Rule 1 by any revisions, in any order.
  pub revisions_hold : (i : ℕ) (p : Play) → i ≤ n → (s t : Sheet) → Ready i p s.list s.why → Revisions P s t
      → Just i p s.list (record { loss = arc_loss P (domains t.list); set = arc_conflict P t.list t.why; list = t.list; why = t.why })
  revisions_hold i p li s t w rs =
      let D = domains s.list in
      let v = w.state in
      let h = Revisions.revisions_toward P D v.foe v.foe_in s t rs (Arc.toward_refl P D) in
      let k = Revisions.revisions-told P F foe foe_in i p li D v.foe v.foe_in s t rs (Arc.toward_refl P D) w.told in
      record {
        verdict = Turn.toward_keeps P i p li D (domains t.list) v h;
        conflict = λ e. arc_conflict_loses i p t.list t.why li v.foe (Revisions.toward_answers P D v.foe v.foe_in (domains t.list) h) k (rw e tt);
        formed = Revisions.revisions_formed P s t w.formed rs;
        told = λ _. k;
      }

  pub explain_arc_holds : (i : ℕ) (p : Play) → i ≤ n → Holds i p (explain_arc P)
  unfolding explain_arc
  explain_arc_holds i p li l R w =
      let s : Sheet = record { list = l; why = R } in
      revisions_hold i p li s (revisions P s) w (Revisions.revisions_are P s w.formed)

  -- The turn -------------------------------------------------------------------------------------------------------------
  pub explained_holds : (S c : ℕ) (p : List ℕ) → c ≤ length p → length p ≤ n → Holds (length p) (play_of p) (explained P S c p)
  unfolding explained
  explained_holds S c p h l =
      chain_holds i (play_of p) (choose (uses S 2) (explain_checks P (i - c) c p)) (chain (choose (uses S 1) (explain_arc P)) (choose (ltb i n && uses S 3) (explain_ahead P i)))
      (choose_holds (uses S 2) i (play_of p) (explain_checks P (i - c) c p) (λ _. explain_checks_hold i p l (i - c) c (omega arith)))
      (chain_holds i (play_of p) (choose (uses S 1) (explain_arc P)) (choose (ltb i n && uses S 3) (explain_ahead P i))
      (choose_holds (uses S 1) i (play_of p) (explain_arc P) (λ _. explain_arc_holds i (play_of p) l))
      (choose_holds (ltb i n && uses S 3) i (play_of p) (explain_ahead P i) (λ t. explain_ahead_holds i (play_of p) (ltb→lt i n (and_out (ltb i n) (uses S 3) t).0))))
    where
      i : ℕ
      i = length p
