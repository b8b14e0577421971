-- The law of the search, by induction on the variables left: what holds at the entry of a turn holds at the entry of the turns below, and
-- every turn answers rightly.
use mathlib.Core.Path.{◌≡◌, refl, sym, subst, ◌∙◌, fun_ext}
use mathlib.Core.Bool.{Bool, true, false, cond, ◌&&◌}
use mathlib.Core.List.{List, [], ◌∷◌, ◌++◌}
use mathlib.Core.Logic.{inl, inr}
use Prim.Native.Nat.{ℕ, zero, suc, ◌+◌, ◌≤◌, ◌<◌}
use native.Mathlib.Omega.{arith}
use lib.Dec.{T, eqb, eqb→eq}
use lib.Bits.{bit_or}
use lib.ListN.{get_or, length, length-append, get_or-eq_default, get_or-append}
use lib.Seq.{get_or-append_seam}
use borrow.Author.Tests.{ne_eqb}
use Rattle.mask.specs.Range.{some}
use Rattle.mask.specs.Mask.{bit, mask_of}
use Rattle.mask.proofs.Logic.{clash, test, by_eq, by_lt, and_out}
use Rattle.mask.proofs.Range.{some_in}
use Rattle.mask.proofs.Masks.{bit-mask_of}
use Rattle.game.specs.Problem.{Problem}
use Rattle.game.specs.Game.{put, satisfied, narrow, Domains, Play}
use Rattle.game.specs.Lists.{domains, Masks}
use Rattle.game.specs.Position.{play_of, legal, position, placed}
use Rattle.game.specs.Rule.{uses}
use Rattle.game.specs.Turn.{first_list, next_list}
use Rattle.game.specs.Reasons.{first_reasons, next_reasons, Step, explained}
use Rattle.game.specs.Search.{Ending, solved, failed, some_value, each_value, check_set, leaf, skippable, narrow_next, start_set, search}
use Rattle.theory.proofs.Transfer
use Rattle.theory.proofs.Transfer.{In, Inside}
use Rattle.theory.proofs.Swap.{start}
use Rattle.theory.proofs.Laws.{at, Answers}
use Rattle.theory.proofs.Moves.{put_at, put_off, replace_at, replace_off}
use Rattle.theory.proofs.Positions.{placed_below, placed-above, placed_state}
use Rattle.theory.proofs.Sound.{State, Sound, state_put}
use Rattle.theory.proofs.Lists.{lent_out, domains-narrow_to, masks_narrow_to, file_lent}
use Rattle.theory.proofs.OnLists.{lowest_of, answers}
use Rattle.theory.proofs.Standing
use Rattle.theory.proofs.TurnLists.{first-list, legal_out, snoc_length}
use Rattle.theory.proofs.Conflict.{Conflict}
use Rattle.theory.proofs.Reasons
use Rattle.theory.proofs.Reasons.{Serves}
use Rattle.theory.proofs.ReasonLists.{in_left, in_right, first_reasons-length, first_reasons_are, next_reasons-length, next_reasons_are}
use Rattle.theory.proofs.Explained
use Rattle.theory.proofs.Explained.{Ready, Just}
use Rattle.theory.proofs.Narrowed
use Rattle.theory.proofs.Narrowed.{Trims}
use Rattle.theory.proofs.Values
use Rattle.theory.proofs.Values.{Fine}

-- One more play.
pub play_of_snoc : (p : List ℕ) (a : ℕ) → play_of (p ++ (a ∷ [])) ≡ put (play_of p) (length p) a
unfolding play_of
play_of_snoc p a = fun_ext λ j. by_eq j (length p)
    (λ e. rw (e, put_at (λ j. get_or p j 0) (length p) a) (get_or-append_seam p a [] 0))
    (λ e. put_rest j e ∙ sym (put_off (λ j. get_or p j 0) (length p) a j e))
  where
    put_rest : (j : ℕ) → ¬ (j ≡ length p) → get_or (p ++ (a ∷ [])) j 0 ≡ get_or p j 0
    put_rest j e = by_lt j (length p) (λ h. get_or-append p (a ∷ []) 0 j h)
        (λ h. let z = length-append p (a ∷ []) in get_or-eq_default (p ++ (a ∷ [])) 0 {n = j} (omega arith) ∙ sym (get_or-eq_default p 0 {n = j} h))

module _ (P : Problem) where
  open P use {n, domain, universal, compatible, constrained, free}

  -- The file's domains, and a play of the universal side.
  abbrev pub F : Domains
  F = domains domain

  abbrev pub foe : Play
  foe = lowest_of P domain

  pub foe_in : Answers P (domains domain) (lowest_of P domain)
  foe_in = answers P domain (file_lent P)

  -- The list D of a turn at depth i stands for the file's domains: it is a part of them, and every position inside it has the same verdict.
  pub record Stands (D : Domains) (i : ℕ) : Type 0 where
    pub sub : (j a : ℕ) → a < 16 → T (D j a) → T (F j a)
    pub faith : (m : ℕ) (q : Play) → i ≤ m → m ≤ n → Inside D m q → at P D m q ≡ at P F m q

  -- What holds at the entry of every turn, after the plays p.
  pub record Entry (p l R : List ℕ) : Type 0 where
    pub depth : length p ≤ n
    pub ready : Ready P F foe foe_in (length p) (play_of p) l R
    pub stands : Stands (domains l) (length p)

  -- The first turn, from a position.
  pub entry_first : (p : List ℕ) → T (legal P p) → Entry p (first_list P p) (first_reasons n (length p))
  unfolding first_list
  entry_first p t = record {
    depth = depth;
    ready = record {
      formed = record { masks = (lent_out P (first_list P p) (first-list P p t).may).masks; sized = first_reasons-length n (length p) };
      state = rw same (placed_state P F foe foe_in (length p) (play_of p) depth ins);
      told = rw (same, first_reasons_are n (length p) depth) (Reasons.told-first P F foe foe_in (length p) (play_of p) ins);
    };
    stands = rw same stands;
  }
    where
      depth : length p ≤ n
      depth = (legal_out P p t).0

      ins : Inside F (length p) (play_of p)
      ins = Standing.legal_inside P p t

      same : domains (position P p) ≡ placed F (length p) (play_of p)
      same = Standing.position-placed P p t

      stands : Stands (placed F (length p) (play_of p)) (length p)
      stands = record {
        sub = λ j a l t. by_lt j (length p) (λ h. let e : T (eqb a (play_of p j)) = rw (placed_below F (length p) (play_of p) j h) at t in rw (eqb→eq a (play_of p j) e) (ins j h).1)
            (λ h. rw (placed-above F (length p) (play_of p) j h) at t);
        faith = λ m q g l z. Transfer.congruent n universal (satisfied compatible n) (placed F (length p) (play_of p)) F m (λ j h _ a _. rw (placed-above F (length p) (play_of p) j (omega arith))) q l;
      }

  -- The list that a turn reaches, after its rules.
  abbrev pub after : ℕ → ℕ → List ℕ → List ℕ → List ℕ → List ℕ
  after S c p l R = (narrow_next P S (length p) (explained P S c p l R).list).list

  -- Inside a turn --------------------------------------------------------------------------------------------------------
  module _ (S c : ℕ) (p l R : List ℕ) (lc : c ≤ length p) (w : Entry p l R) where
    abbrev i : ℕ
    i = length p

    abbrev o : Step
    o = explained P S c p l R

    abbrev e : List ℕ
    e = after S c p l R

    -- Rules 2, 1 and 3 of the turn.
    pub just : Just P F foe foe_in (length p) (play_of p) l (explained P S c p l R)
    just = Explained.explained_holds P F foe foe_in S c p lc w.depth l R w.ready

    module _ (li : length p < n) (calm : (explained P S c p l R).loss ≡ false) where
      -- Rules 4 and 5, and all five.
      pub trims : Trims P i (play_of p) o.list (narrow_next P S i o.list)
      trims = Narrowed.narrow_next_trims P S i (play_of p) li o.list just.formed.masks (just.verdict.state calm)

      pub state_after : State P (length p) (play_of p) (domains (after S c p l R))
      state_after = trims.sound.state trims.calm

      -- All rules of the turn keep the verdict.
      after_law : start P (domains l) ≡ start P (domains (after S c p l R))
      after_law =
          let l1 : start P (domains l) ≡ start P (domains o.list) = rw calm at just.verdict.law in
          let l2 : start P (domains o.list) ≡ start P (domains e) = rw trims.calm at trims.sound.law in l1 ∙ l2

      pub after_sub : (j a : ℕ) → a < 16 → T (domains (after S c p l R) j a) → T (domains l j a)
      after_sub j a h t = just.verdict.sub j a h (trims.sound.sub j a h t)

      narrow_in : (a : ℕ) → T (domains e i a) → (j b : ℕ) → T (narrow (domains e) i a j b) → T (domains e j b)
      narrow_in a m j b t =
          by_eq j i (λ z. let k : T (eqb b a) = rw (z, replace_at (domains e) i (λ b. eqb b a)) at t in rw (z, eqb→eq b a k) m) (λ z. rw (replace_off (domains e) i (λ b. eqb b a) j z) at t)

      pub next : (a : ℕ) → domains (next_list P e i a) ≡ narrow (domains e) i a
      unfolding next_list
      next a = domains-narrow_to n e i a li trims.masks

      next_masks : (a : ℕ) → a < 16 → Masks n (next_list P e i a)
      unfolding next_list
      next_masks a h = masks_narrow_to n e i a li h trims.masks

      -- What holds at the entry holds below, one play later.
      pub entry_below : (a : ℕ) → In (domains (after S c p l R) (length p)) a
          → Entry (p ++ (a ∷ [])) (next_list P (after S c p l R) (length p) a) (next_reasons (explained P S c p l R).why (length p))
      entry_below a m = record {
        depth = rw (snoc_length P p a) li;
        ready = record {
          formed = record { masks = next_masks a m.0; sized = next_reasons-length o.why i ∙ just.formed.sized };
          state = rw (snoc_length P p a, play_of_snoc p a, next a) (state_put P i (play_of p) (domains e) a state_after m.0);
          told = rw (snoc_length P p a, play_of_snoc p a, next a, next_reasons_are o.why i (let z = just.formed.sized in omega arith))
              (Reasons.told_child P F foe foe_in i (play_of p) (domains o.list) (domains o.why) li (just.told calm) (λ j h. ((just.verdict.state calm).played j h).0.1)
              (domains e) trims.off a (m.0, trims.sound.sub i a m.0 m.1));
        };
        stands = rw (snoc_length P p a, next a) stands;
      }
        where
          stands : Stands (narrow (domains e) i a) (suc i)
          stands = record {
            sub = λ j b h t. w.stands.sub j b h (after_sub j b h (narrow_in a m.1 j b t));
            faith = λ k q g h z.
                let zE : Inside (domains e) k q = λ j u. ((z j u).0, narrow_in a m.1 j (q j) (z j u).1) in
                let zL : Inside (domains o.list) k q = λ j u. ((z j u).0, trims.sound.sub j (q j) (z j u).0 (zE j u).1) in
                Transfer.congruent n universal (satisfied compatible n) (narrow (domains e) i a) (domains e) k (λ j u v b c. rw (replace_off (domains e) i (λ b. eqb b a) j (omega arith))) q h
                ∙ sym (trims.sound.faith k q g h zE) ∙ sym (just.verdict.faith k q g h zL)
                ∙ w.stands.faith k q (omega arith) h (λ j u. ((z j u).0, after_sub j (q j) (z j u).0 (zE j u).1));
          }

      -- When all values of an existential variable are lost: what rules 4 and 5 left out has a value as good, for the reasons of the neighbours.
      all_lost : universal i ≡ false → (J : ℕ) → ((b : ℕ) → In (domains e i) b → Conflict P F (bit J) (suc i) (put (play_of p) i b))
          → ((j : ℕ) → T (bit (start_set P o.why o.list e i) j) → T (bit J j)) → Conflict P F (bit J) i (play_of p)
      unfolding start_set domains
      all_lost d J f up =
          Reasons.conflict-turn P F foe foe_in i (play_of p) (domains o.list) (domains o.why) li (just.told calm) d (domains e i) (bit J)
          (λ j h u. up j (mine_in (eqb (get_or e i 0) (get_or o.list i 0)) j u)) (λ a m. trims.sound.sub i a m.0 m.1) serve f
        where
          near : ℕ → Bool
          near j = some n (constrained i) (λ k. bit (get_or o.why k 0) j)

          mine_in : (b : Bool) (j : ℕ) → T (bit (get_or o.why i 0) j) → T (bit (cond b (get_or o.why i 0) (bit_or (get_or o.why i 0) (mask_of n near))) j)
          mine_in true j u = u
          mine_in false j u = in_left (get_or o.why i 0) (mask_of n near) j u

          serve : (a : ℕ) → In (domains o.list i) a → (b : ℕ) × In (domains e i) b × Serves P F foe foe_in i (domains o.list) (domains o.why) (bit J) a b
          serve a m = by_eq (get_or e i 0) (get_or o.list i 0)
              (λ z. (a, (m.0, rw z m.1), λ k lk ne. inr (λ c g. g)))
              (λ z. let c = trims.cover d a m in (
                c.0,
                c.1,
                λ k lk ne. test (constrained i k)
                    (λ t. inl (
                      (λ j h u. up j (rw (ne_eqb (get_or e i 0) (get_or o.list i 0) z) (in_right (get_or o.why i 0) (mask_of n near) j
                          (rw (bit-mask_of n near j (omega arith)) (some_in n (constrained i) (λ k. bit (get_or o.why k 0) j) k lk t u))))),
                      c.2 k lk ne,
                    ))
                    (λ y. inr (λ v _. free i k y c.0 v)),
              ))

      won : (q : List ℕ) → T (start P (domains e)) → Values.Leaf P F (domains l) i (play_of p) li e state_after q → Fine P F (domains l) i (play_of p) (solved q)
      won q t lf = (rw after_law t, lf.0, (λ j h. ((lf.1 j h).0, after_sub j (play_of q j) (lf.1 j h).0 (lf.1 j h).1)), lf.2, lf.3)

      -- The loop over the values, given that the turns below are fine.
      turn_fine : (f : ℕ → Ending) → ((a : ℕ) → In (domains e i) a → Fine P F (narrow (domains e) i a) (suc i) (put (play_of p) i a) (f a)) → (b : Bool) → universal i ≡ b
          → Fine P F (domains l) i (play_of p) (cond b (each_value (λ q a. uses S 7 && skippable P e i q a) f 16 0 (get_or e i 0) p) (some_value (uses S 6) i (get_or e i 0) f 16 0 (start_set P o.why o.list e i)))
      unfolding domains
      turn_fine f fine true d =
          Values.each_value_fine P F (domains l) i (play_of p) li e state_after f fine (Fine P F (domains l) i (play_of p)) won (λ S t. t) d
          (λ a m. w.stands.sub i a m.0 (after_sub i a m.0 m.1)) (λ q a. uses S 7 && skippable P e i q a)
          (λ x a lf m t. Values.skippable-wins P F (domains l) i (play_of p) li e state_after d x a lf m (and_out (uses S 7) (skippable P e i x a) t).1)
          16 0 (get_or e i 0) p (omega arith) (λ b _ t. t) past
        where
          past : Values.Past P F (domains l) i (play_of p) li e state_after f fine (Fine P F (domains l) i (play_of p)) won (λ S t. t) 0 (get_or e i 0) p
          past b m (inl h) = absurd (omega arith)
          past b m (inr z) = absurd (clash z m.1)
      turn_fine f fine false d =
          Values.some_value_fine P F (domains l) i (play_of p) li e state_after f fine (Fine P F (domains l) i (play_of p)) won (λ S t. t) d
          (uses S 6) (start_set P o.why o.list e i) (all_lost d) 16 0 (start_set P o.why o.list e i) (omega arith) (λ b l. absurd (omega arith)) (λ j t. t)

  -- THE LAW OF THE SEARCH.
  pub search_fine : (S c k : ℕ) (p l R : List ℕ) → c ≤ length p → k + length p ≡ n → Entry p l R → Fine P F (domains l) (length p) (play_of p) (search P S c k p l R)
  unfolding search
  search_fine S c zero p l R lc z w = Values.hand_up_fine P (uses S 6) F (domains l) (length p) (play_of p) (leaf P (explained P S c p l R).loss (check_set P S c p l R) p) played_out
    where
      played_out : Fine P F (domains l) (length p) (play_of p) (leaf P (explained P S c p l R).loss (check_set P S c p l R) p)
      played_out =
          let z : length p ≡ n = omega arith in
          let h : Sound P (length p) (play_of p) (domains l) (record { loss = (explained P S c p l R).loss; dom = domains (explained P S c p l R).list }) = (just S c p l R lc w).verdict in
          subst (λ (i : ℕ). Fine P F (domains l) i (play_of p) (leaf P (explained P S c p l R).loss (check_set P S c p l R) p)) (sym z)
          (Values.leaf_fine P F (domains l) p (record { loss = (explained P S c p l R).loss; dom = domains (explained P S c p l R).list }) (check_set P S c p l R) z (rw z at w.ready.state) (rw z at h))
  search_fine S c (suc k) p l R lc z w = Values.hand_up_fine P (uses S 6) F (domains l) i (play_of p) _ (go o.loss refl (search_fine S i k))
    where
      i : ℕ
      i = length p

      o : Step
      o = explained P S c p l R

      e : List ℕ
      e = after S c p l R

      f : ℕ → Ending
      f a = search P S i k (p ++ (a ∷ [])) (next_list P e i a) (next_reasons o.why i)

      go : (b : Bool) → (explained P S c p l R).loss ≡ b
          → ((p l R : List ℕ) → i ≤ length p → k + length p ≡ n → Entry p l R → Fine P F (domains l) (length p) (play_of p) (search P S i k p l R))
          → Fine P F (domains l) i (play_of p) (cond b (failed o.set) (cond (universal i) (each_value (λ q a. uses S 7 && skippable P e i q a) f 16 0 (get_or e i 0) p)
          (some_value (uses S 6) i (get_or e i 0) f 16 0 (start_set P o.why o.list e i))))
      go true q ih = (just S c p l R lc w).conflict q
      go false q ih = turn_fine S c p l R lc w (omega arith) q f below (universal i) refl
        where
          below : (a : ℕ) → In (domains (after S c p l R) (length p)) a → Fine P F (narrow (domains (after S c p l R)) (length p) a) (suc (length p)) (put (play_of p) (length p) a) (f a)
          below a m =
              let len = snoc_length P p a in
              rw (← (snoc_length P p a), ← (play_of_snoc p a), ← (next S c p l R lc w (omega arith) q a))
              (ih (p ++ (a ∷ [])) (next_list P e i a) (next_reasons o.why i) (omega arith) (omega arith) (entry_below S c p l R lc w (omega arith) q a m))
