-- The turns that a search may come to, and what holds at each of them.
use mathlib.Core.Path.{◌≡◌, refl, sym, ap, subst, ◌∙◌}
use mathlib.Core.Bool.{Bool, true, false, cond, not, ◌&&◌, ◌||◌}
use mathlib.Core.List.{List, [], ◌∷◌, ◌++◌}
use Prim.Native.Nat.{ℕ, zero, suc, ◌+◌, ◌-◌, ◌^◌, ◌≤◌, ◌<◌}
use native.Mathlib.Omega.{arith}
use lib.Dec.{T}
use lib.Bits.{bit_or}
use lib.ListN.{get_or, length}
use lib.Seq.{ext_get_or}
use Rattle.mask.specs.Mask.{bit, mask_of}
use Rattle.mask.proofs.Logic.{holds, fails, clash, by_eq, by_lt, or_left}
use Rattle.mask.proofs.Bits.{bit_high, bit_ext}
use Rattle.mask.proofs.Masks.{mask_of_lt, bit-mask_of}
use Rattle.game.specs.Problem.{Problem}
use Rattle.game.specs.Game.{put, satisfied, narrow}
use Rattle.game.specs.Lists.{domains}
use Rattle.game.specs.Position.{play_of, legal, position}
use Rattle.game.specs.Winning.{verdict}
use Rattle.game.specs.Rule.{uses}
use Rattle.game.specs.Turn.{first_list, next_list, reached}
use Rattle.game.specs.Arc.{arc_loss, arc}
use Rattle.game.specs.Removals.{NoneDead}
use Rattle.game.specs.Reasons.{choose, explain_checks, Step, Sheet, arc_conflict, first_reasons, next_reasons, explained}
use Rattle.game.specs.Search.{Ending, solved, failed, is_solved, or_else, handed, hand_up, some_value, each_value, first_broken, check_set, leaf, skippable, narrow_next, start_set, search}
use Rattle.game.specs.Turns.{TurnOf, first, below, turn_below}
use Rattle.game.specs.Skipping.{shown, skipping_turn}
use Rattle.theory.specs.TurnList.{AtTurn}
use Rattle.theory.specs.AnyOrder.{Revisions}
use Rattle.theory.proofs.Transfer.{In}
use Rattle.theory.proofs.Swap.{start}
use Rattle.theory.proofs.Laws.{at, start_at}
use Rattle.theory.proofs.Sound.{Sound}
use Rattle.theory.proofs.Lists.{domains_boxed, over-start, lent_out}
use Rattle.theory.proofs.TurnLists
use Rattle.theory.proofs.TurnLists.{legal_in, snoc_length}
use Rattle.theory.proofs.Standing
use Rattle.theory.proofs.Standing.{legal_snoc}
use Rattle.theory.proofs.Values
use Rattle.theory.proofs.Values.{Fine}
use Rattle.theory.proofs.Conflict.{Conflict}
use Rattle.theory.proofs.Revisions
use Rattle.theory.proofs.Explained
use Rattle.theory.proofs.Plain
use Rattle.theory.proofs.Plain.{ruled}
use Rattle.theory.proofs.Search
use Rattle.theory.proofs.Search.{F, foe, foe_in, Entry, play_of_snoc, after}

module _ (P : Problem) where
  open P use {n, domain, universal, compatible}

  -- The list ---------------------------------------------------------------------------------------------------------------
  module _ (S c : ℕ) (p l R : List ℕ) (lc : c ≤ length p) (w : Entry P p l R) where
    pub entry_loss : (reached P S c p l).loss ≡ (explained P S c p l R).loss
    entry_loss = by_lt (length p) n
        (λ h. ap {B = Bool} (λ r. r.loss) (Plain.reached_plain P (F P) (foe P) (foe_in P) S c p l R lc h w.ready) ∙ go h (explained P S c p l R).loss refl)
        (λ h. let d = w.depth in ap {B = Bool} (λ r. r.loss) (Plain.reached_end P (F P) (foe P) (foe_in P) S c p l R lc (omega arith) w.ready))
      where
        go : length p < n → (b : Bool) → (explained P S c p l R).loss ≡ b → (cond b (ruled (explained P S c p l R)) (narrow_next P S (length p) (explained P S c p l R).list)).loss ≡ b
        go h true e = e
        go h false e = (Search.trims P S c p l R lc w h e).calm

    pub entry_list : length p < n → (reached P S c p l).loss ≡ false → (reached P S c p l).list ≡ after P S c p l R
    entry_list h e =
        let q : reached P S c p l ≡ narrow_next P S (length p) (explained P S c p l R).list =
        rw (sym entry_loss ∙ e) at (Plain.reached_plain P (F P) (foe P) (foe_in P) S c p l R lc h w.ready) in ap {B = List ℕ} (λ r. r.list) q

    -- Where all are played, and where a rule found a loss and left the list so.
    pub end_list : length p ≡ n → (reached P S c p l).list ≡ (explained P S c p l R).list
    end_list h = ap {B = List ℕ} (λ r. r.list) (Plain.reached_end P (F P) (foe P) (foe_in P) S c p l R lc h w.ready)

    pub lost_list : (explained P S c p l R).loss ≡ true → (reached P S c p l).list ≡ (explained P S c p l R).list
    lost_list e = by_lt (length p) n
        (λ h. let q : reached P S c p l ≡ ruled (explained P S c p l R) =
        Plain.reached_plain P (F P) (foe P) (foe_in P) S c p l R lc h w.ready
        ∙ ap (λ (b : Bool). cond b (ruled (explained P S c p l R)) (narrow_next P S (length p) (explained P S c p l R).list)) e in
        ap {B = List ℕ} (λ r. r.list) q)
        (λ h. let d = w.depth in end_list (omega arith))

  -- What holds at the entry of every turn of a search ------------------------------------------------------------------------
  pub record At (c : ℕ) (p l R : List ℕ) : Type 0 where
    pub entry : Entry P p l R
    pub checked : c ≤ length p
    pub legal_plays : T (legal P p)

  -- The turn below.
  pub at_after : (S c : ℕ) (p l R : List ℕ) → At c p l R → length p < n → (explained P S c p l R).loss ≡ false → (a : ℕ) → T (domains (after P S c p l R) (length p) a)
      → At (length p) (p ++ (a ∷ [])) (next_list P (after P S c p l R) (length p) a) (next_reasons (explained P S c p l R).why (length p))
  at_after S c p l R w h e a m =
      let b = (domains_boxed n (after P S c p l R) (Search.trims P S c p l R w.checked w.entry h e).masks (length p) a m).1 in
      record {
        entry = Search.entry_below P S c p l R w.checked w.entry h e a (b, m);
        checked = let z = snoc_length P p a in omega arith;
        legal_plays = legal_snoc P p a w.legal_plays h (w.entry.stands.sub (length p) a b (Search.after_sub P S c p l R w.checked w.entry h e (length p) a b m));
      }

  at_below : (S c : ℕ) (p l R : List ℕ) → At c p l R → length p < n → (reached P S c p l).loss ≡ false → (a : ℕ) → T (domains (reached P S c p l).list (length p) a)
      → At (length p) (p ++ (a ∷ [])) (next_list P (reached P S c p l).list (length p) a) (next_reasons (explained P S c p l R).why (length p))
  at_below S c p l R w h e =
      subst (λ (m : List ℕ). (a : ℕ) → T (domains m (length p) a) → At (length p) (p ++ (a ∷ [])) (next_list P m (length p) a) (next_reasons (explained P S c p l R).why (length p)))
      (sym (entry_list S c p l R w.checked w.entry h e)) (at_after S c p l R w h (sym (entry_loss S c p l R w.checked w.entry) ∙ e))

  pub turn_at : (S : ℕ) (p₀ : List ℕ) → T (legal P p₀) → (c : ℕ) (p l R : List ℕ) → TurnOf P S p₀ c p l R → At c p l R
  turn_at S p₀ t _ _ _ _ first = record { entry = Search.entry_first P p₀ t; checked = omega arith; legal_plays = t }
  turn_at S p₀ t _ _ _ _ (below {c = c} {p = p} {l = l} {R = R} a tu h e m) = at_below S c p l R (turn_at S p₀ t c p l R tu) h e a m

  -- Its list may be lent, and holds the plays.
  pub turn-list : (S : ℕ) (p₀ : List ℕ) → T (legal P p₀) → (c : ℕ) (p l R : List ℕ) → TurnOf P S p₀ c p l R → AtTurn P p l
  turn-list S p₀ t _ _ _ _ first = TurnLists.first-list P p₀ t
  turn-list S p₀ t _ _ _ _ (below {c = c} {p = p} {l = l} {R = R} a tu h e m) =
      TurnLists.next-list P p (reached P S c p l).list a (TurnLists.turn-list P S c p l (turn-list S p₀ t c p l R tu) (turn_at S p₀ t c p l R tu).checked e) h m

  -- The verdict of the position is the game from there on over the file's domains, and over the turn's list.
  entry_game : (p l R : List ℕ) → Entry P p l R → start P (domains l) ≡ at P (F P) (length p) (play_of p)
  entry_game p l R w =
      let s = w.ready.state in
      start_at P (domains l) (length p) (play_of p) w.depth s.played ∙ w.stands.faith (length p) (play_of p) (omega arith) w.depth (λ j h. (s.played j h).0)

  verdict_game : (p : List ℕ) → T (legal P p) → verdict P p ≡ at P (F P) (length p) (play_of p)
  unfolding verdict first_list
  verdict_game p t = over-start P (position P p) ∙ entry_game p (position P p) (first_reasons n (length p)) (Search.entry_first P p t)

  entry_verdict : (c : ℕ) (p l R : List ℕ) → At c p l R → start P (domains l) ≡ verdict P p
  entry_verdict c p l R w = entry_game p l R w.entry ∙ sym (verdict_game p w.legal_plays)

  -- A conflict set in terms of positions.
  conflict_lost : (p : List ℕ) (U : ℕ) → Conflict P (F P) (bit U) (length p) (play_of p)
      → (q : List ℕ) → T (legal P q) → length q ≡ length p → ((j : ℕ) → j < length p → T (bit U j) → get_or q j 0 ≡ get_or p j 0) → verdict P q ≡ false
  unfolding play_of
  conflict_lost p U h q t z a = fails {b = verdict P q} λ v. h (play_of q) (rw z at (Standing.legal_inside P q t)) a (rw z at (rw (verdict_game q t) at v))

  -- Each turn answers rightly --------------------------------------------------------------------------------------------------
  module _ (S c k : ℕ) (p l R : List ℕ) (left : k + length p ≡ n) (w : At c p l R) where
    fine : Fine P (F P) (domains l) (length p) (play_of p) (search P S c k p l R)
    fine = Search.search_fine P S c k p l R w.checked left w.entry

    pub answer : is_solved (search P S c k p l R) ≡ verdict P p
    answer = go (search P S c k p l R) fine
      where
        go : (r : Ending) → Fine P (F P) (domains l) (length p) (play_of p) r → is_solved r ≡ verdict P p
        go (solved q) h = sym (sym (entry_verdict c p l R w) ∙ holds h.0)
        go (failed U) h = sym (fails λ t. h (play_of p) (Standing.legal_inside P p w.legal_plays) (λ j _ _. refl) (rw (verdict_game p w.legal_plays) at t))

    pub answer-leaf : (q : List ℕ) → search P S c k p l R ≡ solved q
        → (length q ≡ n) × T (legal P q) × ((j : ℕ) → j < length p → get_or q j 0 ≡ get_or p j 0) × T (satisfied compatible n (play_of q)) × ((j : ℕ) → j < n → T (domains l j (get_or q j 0)))
    unfolding play_of
    answer-leaf q e =
        let h : Fine P (F P) (domains l) (length p) (play_of p) (solved q) = rw e at fine in
        (h.1, legal_in P q (let z = h.1 in omega arith) (λ j b. inside j (let z = h.1 in omega arith) h), h.3, h.4, λ j b. (h.2 j b).1)
      where
        inside : (j : ℕ) → j < n → Fine P (F P) (domains l) (length p) (play_of p) (solved q) → T (domains domain j (get_or q j 0))
        inside j b h = w.entry.stands.sub j (get_or q j 0) (h.2 j b).0 (h.2 j b).1

    pub answer-set : (U : ℕ) → search P S c k p l R ≡ failed U
        → (q : List ℕ) → T (legal P q) → length q ≡ length p → ((j : ℕ) → j < length p → T (bit U j) → get_or q j 0 ≡ get_or p j 0) → verdict P q ≡ false
    answer-set U e = let h : Fine P (F P) (domains l) (length p) (play_of p) (failed U) = rw e at fine in conflict_lost p U h

  -- A turn that has a variable left, of which the rules' reply o and the list e that they reach are known; f is the turn below. --------
  unfoldable pub inner : ℕ → List ℕ → Step → List ℕ → (ℕ → Ending) → Ending
  inner S p o e f = cond o.loss (failed o.set) (cond (universal (length p)) (each_value (λ q a. uses S 7 && skippable P e (length p) q a) f 16 0 (get_or e (length p) 0) p)
      (some_value (uses S 6) (length p) (get_or e (length p) 0) f 16 0 (start_set P o.why o.list e (length p))))

  pub search-next : (S c k : ℕ) (p l R : List ℕ) (o : Step) (e : List ℕ) → explained P S c p l R ≡ o → (narrow_next P S (length p) o.list).list ≡ e
      → search P S c (suc k) p l R ≡ hand_up (uses S 6) (length p) (inner S p o e (turn_below P S k p e o.why))
  unfolding search inner
  search-next S c k p l R o e h g = rw (h, g)

  -- What a lost turn hands up ------------------------------------------------------------------------------------------------
  -- Every answer is handed up.
  hands : (S c k : ℕ) (p l R : List ℕ) → (r : Ending) × (search P S c k p l R ≡ hand_up (uses S 6) (length p) r)
  unfolding search
  hands S c zero p l R = (_, refl)
  hands S c (suc k) p l R = (_, refl)

  handed-set : (jump : Bool) (i : ℕ) (r : Ending) (U : ℕ) → hand_up jump i r ≡ failed U → (W : ℕ) × (U ≡ handed jump i W)
  unfolding hand_up
  handed-set jump i (solved q) U e = absurd (let z : ◌≡◌ {A = ℕ} 0 1 = cc in omega arith)
  handed-set jump i (failed W) U e = (W, let z : U ≡ handed jump i W = cc in z)

  pub set-played : (S c k : ℕ) (p l R : List ℕ) (U : ℕ) → search P S c k p l R ≡ failed U → (j : ℕ) → T (bit U j) → j < length p
  unfolding handed
  set-played S c k p l R U e j t =
      let h = hands S c k p l R in
      let v = handed-set (uses S 6) (length p) h.0 U (sym h.1 ∙ e) in
      by_lt j (length p) (λ l. l) (λ l. absurd (clash (bit_high (length p) (handed (uses S 6) (length p) v.0) j (mask_of_lt (length p) (λ j. not (uses S 6) || bit v.0 j)) l) (rw v.1 at t)))

  pub set_whole : (S c k : ℕ) (p l R : List ℕ) (U : ℕ) → search P S c k p l R ≡ failed U → uses S 6 ≡ false → (j : ℕ) → j < length p → T (bit U j)
  unfolding handed
  set_whole S c k p l R U e z j b =
      let h = hands S c k p l R in
      let v = handed-set (uses S 6) (length p) h.0 U (sym h.1 ∙ e) in
      rw (v.1, bit-mask_of (length p) (λ j. not (uses S 6) || bit v.0 j) j b) (or_left (not (uses S 6)) (bit v.0 j) (rw z tt))

  -- A leaf is decided by its constraints, also where a rule found a loss.
  pub answer_end : (S c : ℕ) (p l R : List ℕ) → length p ≡ n → At c p l R
      → search P S c 0 p l R ≡ cond (satisfied compatible n (play_of p)) (solved p) (failed (handed (uses S 6) n (bit_or (first_broken P p) (check_set P S c p l R))))
  unfolding search hand_up
  answer_end S c p l R z w =
      let h : Sound P n (play_of p) (domains l) (record { loss = (explained P S c p l R).loss; dom = domains (explained P S c p l R).list }) =
      rw z at (Search.just P S c p l R w.checked w.entry).verdict in
      rw (Values.leaf_is P p (domains l) (record { loss = (explained P S c p l R).loss; dom = domains (explained P S c p l R).list }) (check_set P S c p l R) (rw z at w.entry.ready.state) h, z)
      (go (satisfied compatible n (play_of p)))
    where
      go : (b : Bool) → hand_up (uses S 6) n (cond b (solved p) (failed (bit_or (first_broken P p) (check_set P S c p l R)))) ≡ cond b (solved p) (failed (handed (uses S 6) n (bit_or (first_broken P p) (check_set P S c p l R))))
      go true = refl
      go false = refl

  -- In a leaf that breaks no constraint the rules find no loss.
  pub leaf_calm : (S c : ℕ) (p l R : List ℕ) → length p ≡ n → At c p l R → T (satisfied compatible n (play_of p)) → (explained P S c p l R).loss ≡ false
  unfolding search leaf hand_up
  leaf_calm S c p l R z w = go (explained P S c p l R).loss (satisfied compatible n (play_of p)) (ap is_solved (answer_end S c p l R z w))
    where
      go : (b s : Bool) → is_solved (hand_up (uses S 6) (length p) (cond (not b && s) (solved p) (failed (bit_or (first_broken P p) (check_set P S c p l R)))))
          ≡ is_solved (cond s (solved p) (failed (handed (uses S 6) n (bit_or (first_broken P p) (check_set P S c p l R))))) → T s → b ≡ false
      go false s e t = refl
      go true true e t = absurd (subst (λ b. T b) (sym e) tt)
      go true false e t = elim t [ ]

  -- Two lists of a turn in which all are played are the same.
  pub played_same : (p l m : List ℕ) → length p ≡ n → AtTurn P p l → AtTurn P p m → l ≡ m
  played_same p l m z a b =
      let e = (lent_out P l a.may).masks.size in
      let f = (lent_out P m b.may).masks.size in
      ext_get_or 0 l m (e ∙ sym f) λ j h. a.played j (omega arith) ∙ sym (b.played j (omega arith))

  -- Rule 6: where it jumps ---------------------------------------------------------------------------------------------------
  -- A child's set that lacks i is handed up as it is.
  handed_same : (i U : ℕ) → U < 2 ^ suc i → bit U i ≡ false → handed true i U ≡ U
  unfolding handed
  handed_same i U h z = bit_ext (suc i) (mask_of i (λ j. bit U j)) U small h λ j l. by_eq j i
      (λ e. rw (e, bit_high i (mask_of i (λ j. bit U j)) i (mask_of_lt i (λ j. bit U j)) (omega arith)) (sym z)) (λ e. bit-mask_of i (λ j. bit U j) j (omega arith))
    where
      small : mask_of i (λ j. bit U j) < 2 ^ suc i
      small = let k = mask_of_lt i (λ j. bit U j) in omega arith

  handed_small : (S c k : ℕ) (p l R : List ℕ) (U : ℕ) → search P S c k p l R ≡ failed U → U < 2 ^ length p
  unfolding handed
  handed_small S c k p l R U e =
      let h = hands S c k p l R in
      let v = handed-set (uses S 6) (length p) h.0 U (sym h.1 ∙ e) in
      rw v.1 (mask_of_lt (length p) (λ j. not (uses S 6) || bit v.0 j))

  -- Values before a are lost with i in their sets, a without.
  some_jumps : (i d : ℕ) (f : ℕ → Ending) (v b J a U : ℕ) → v + b ≡ 16 → b ≤ a → a < 16 → T (bit d a) → f a ≡ failed U → bit U i ≡ false
      → ((x : ℕ) → x < a → T (bit d x) → (W : ℕ) × (f x ≡ failed W) × T (bit W i)) → some_value true i d f v b J ≡ failed U
  unfolding some_value
  some_jumps i d f zero b J a U z h l m e s past = absurd (omega arith)
  some_jumps i d f (suc v) b J a U z h l m e s past = by_eq b a
      (λ q. rw (q, holds {b = bit d a} m, e, s)) (λ q. go q (bit d b) refl (λ J. some_jumps i d f v (suc b) J a U (omega arith) (omega arith) l m e s past))
    where
      go : ¬ (b ≡ a) → (x : Bool) → bit d b ≡ x → ((J : ℕ) → some_value true i d f v (suc b) J ≡ failed U)
          → cond x (or_else (f b) (λ S. cond (true && not (bit S i)) (failed S) (some_value true i d f v (suc b) (bit_or J S)))) (some_value true i d f v (suc b) J) ≡ failed U
      go q false x ih = ih J
      go q true x ih = let w = past b (omega arith) (rw x tt) in rw (w.1, holds {b = bit w.0 i} w.2) (ih (bit_or J w.0))

  pub jumps : (S c k : ℕ) (p l R : List ℕ) → length p < n → At c p l R → (reached P S c p l).loss ≡ false → universal (length p) ≡ false → uses S 6 ≡ true
      → (a U : ℕ) → T (domains (reached P S c p l).list (length p) a) → turn_below P S k p (reached P S c p l).list (explained P S c p l R).why a ≡ failed U → bit U (length p) ≡ false
      → ((x : ℕ) → x < a → T (domains (reached P S c p l).list (length p) x) → (W : ℕ) × (turn_below P S k p (reached P S c p l).list (explained P S c p l R).why x ≡ failed W) × T (bit W (length p)))
      → search P S c (suc k) p l R ≡ failed U
  unfolding domains inner hand_up
  jumps S c k p l R lp w calm ex six a U m e s past =
      let i = length p in
      let o = explained P S c p l R in
      let quiet : o.loss ≡ false = sym (entry_loss S c p l R w.checked w.entry) ∙ calm in
      let d = get_or (reached P S c p l).list i 0 in
      let la = (domains_boxed n (after P S c p l R) (Search.trims P S c p l R w.checked w.entry lp quiet).masks i a (rw (entry_list S c p l R w.checked w.entry lp calm) at m)).1 in
      search-next S c k p l R o (reached P S c p l).list refl (sym (entry_list S c p l R w.checked w.entry lp calm))
      ∙ rw (quiet, ex, six, some_jumps i d (turn_below P S k p (reached P S c p l).list o.why) 16 0 (start_set P o.why o.list (reached P S c p l).list i) a U (omega arith) (omega arith) la m e s past)
      (ap failed (handed_same i U (rw (snoc_length P p a) at (handed_small S i k (p ++ (a ∷ [])) (next_list P (reached P S c p l).list i a) (next_reasons o.why i) U e)) s))

  -- Rule 1 by revisions in any order ----------------------------------------------------------------------------------------
  -- They start from the list and the reasons that rule 2 left.
  pub revisions-answer : (S c : ℕ) (p l R : List ℕ) → At c p l R → let o = choose (uses S 2) (explain_checks P (length p - c) c p) l R in o.loss ≡ false
      → (t : Sheet) → Revisions P (record { list = o.list; why = o.why }) t
      → (NoneDead P t.list → t.list ≡ (arc P o.list).list)
      × (T (arc_loss P (domains t.list)) → (q : List ℕ) → T (legal P q) → length q ≡ length p
      → ((j : ℕ) → j < length p → T (bit (arc_conflict P t.list t.why) j) → get_or q j 0 ≡ get_or p j 0) → verdict P q ≡ false)
  revisions-answer S c p l R w e t rs =
      let i = length p in
      let o = choose (uses S 2) (explain_checks P (i - c) c p) l R in
      let ok = w.checked in
      let h = Explained.choose_holds P (F P) (foe P) (foe_in P) (uses S 2) i (play_of p) (explain_checks P (i - c) c p)
      (λ _. Explained.explain_checks_hold P (F P) (foe P) (foe_in P) i p w.entry.depth (i - c) c (omega arith)) l R w.entry.ready in
      let r = Explained.just_ready P (F P) (foe P) (foe_in P) i (play_of p) l o h e in
      let s : Sheet = record { list = o.list; why = o.why } in (
        (λ d. Revisions.revisions-list P s t r.state.foe r.state.foe_in r.formed rs (λ j h u a m. d j h u a m.1)),
        λ e. conflict_lost p (arc_conflict P t.list t.why) ((Explained.revisions_hold P (F P) (foe P) (foe_in P) (length p) (play_of p) w.entry.depth s t r rs).conflict (holds {b = arc_loss P (domains t.list)} e)),
      )

  -- Rule 7 -------------------------------------------------------------------------------------------------------------------
  skips_after : (S c k : ℕ) (p l R : List ℕ) → (explained P S c p l R).loss ≡ false → universal (length p) ≡ true
      → search P S c (suc k) p l R ≡ hand_up (uses S 6) (length p) (skipping_turn P S k p (after P S c p l R) (explained P S c p l R).why)
  unfolding search shown
  skips_after S c k p l R calm day =
      rw (calm, day) (ap (hand_up (uses S 6) (length p)) (Values.skipping_is (λ q a. uses S 7 && skippable P (after P S c p l R) (length p) q a) (get_or (after P S c p l R) (length p) 0)
      (turn_below P S k p (after P S c p l R) (explained P S c p l R).why) 16 0 (get_or (after P S c p l R) (length p) 0) [] p
      (omega arith) (λ b _ _. all_open (bit (get_or (after P S c p l R) (length p) 0) b))))
    where
      all_open : (x : Bool) → x ≡ (x && not false)
      all_open true = refl
      all_open false = refl

  module _ (S c k : ℕ) (p l R : List ℕ) (left : suc k + length p ≡ n) (w : At c p l R) (calm : (reached P S c p l).loss ≡ false) (day : universal (length p) ≡ true) where
    abbrev A : List ℕ
    A = after P S c p l R

    abbrev why : List ℕ
    why = (explained P S c p l R).why

    lp : length p < n
    lp = omega arith

    quiet : (explained P S c p l R).loss ≡ false
    quiet = sym (entry_loss S c p l R w.checked w.entry) ∙ calm

    same_list : (reached P S c p l).list ≡ A
    same_list = entry_list S c p l R w.checked w.entry lp calm

    pub skips_exactly : search P S c (suc k) p l R ≡ hand_up (uses S 6) (length p) (skipping_turn P S k p (reached P S c p l).list (explained P S c p l R).why)
    skips_exactly = subst (λ (e : List ℕ). search P S c (suc k) p l R ≡ hand_up (uses S 6) (length p) (skipping_turn P S k p e (explained P S c p l R).why)) (sym same_list) (skips_after S c k p l R quiet day)

    boxed : (a : ℕ) → T (domains A (length p) a) → In (domains A (length p)) a
    boxed a m = ((domains_boxed n A (Search.trims P S c p l R w.checked w.entry lp quiet).masks (length p) a m).1, m)

    wins-after : (b : ℕ) (r : List ℕ) → T (domains A (length p) b) → turn_below P S k p A why b ≡ solved r
        → (a : ℕ) → T (domains A (length p) a) → T (skippable P A (length p) r a) → verdict P (p ++ (a ∷ [])) ≡ true
    wins-after b r mb eb a ma t =
        let len = snoc_length P p b in
        let on = at_after S c p l R w lp quiet in
        let h = Search.search_fine P S (length p) k (p ++ (b ∷ [])) (next_list P A (length p) b) (next_reasons why (length p)) (omega arith) (omega arith) (on b mb).entry in
        let f : Fine P (F P) (narrow (domains A) (length p) b) (suc (length p)) (put (play_of p) (length p) b) (solved r) =
        rw (snoc_length P p b, play_of_snoc p b, Search.next P S c p l R w.checked w.entry lp quiet b, eb) at h in
        let st = Search.state_after P S c p l R w.checked w.entry lp quiet in
        let lf = Values.leaf_up P (F P) (domains l) (length p) (play_of p) lp A st b (boxed b mb) r f in
        let g = Values.skippable-wins P (F P) (domains l) (length p) (play_of p) lp A st day r a lf (boxed a ma) t in
        sym (entry_verdict (length p) (p ++ (a ∷ [])) (next_list P A (length p) a) (next_reasons why (length p)) (on a ma))
        ∙ rw (Search.next P S c p l R w.checked w.entry lp quiet a) (holds g)

    -- A value that some leaf of this turn lets be skipped leads to a win.
    pub skips_wins : (b : ℕ) (r : List ℕ) → T (domains (reached P S c p l).list (length p) b) → turn_below P S k p (reached P S c p l).list (explained P S c p l R).why b ≡ solved r
        → (a : ℕ) → T (domains (reached P S c p l).list (length p) a) → T (skippable P (reached P S c p l).list (length p) r a) → verdict P (p ++ (a ∷ [])) ≡ true
    skips_wins = subst (λ (e : List ℕ). (b : ℕ) (r : List ℕ) → T (domains e (length p) b) → turn_below P S k p e (explained P S c p l R).why b ≡ solved r
        → (a : ℕ) → T (domains e (length p) a) → T (skippable P e (length p) r a) → verdict P (p ++ (a ∷ [])) ≡ true) (sym same_list) wins-after
