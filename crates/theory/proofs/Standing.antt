-- Positions reached by calls, and the verdict of a position from those of the next plays.
use mathlib.Core.Path.{◌≡◌, refl, sym, ap, ◌∙◌, fun_ext}
use mathlib.Core.Bool.{Bool, true, false, not, ◌&&◌}
use mathlib.Core.List.{List, [], ◌∷◌, ◌++◌}
use Prim.Native.Nat.{ℕ, zero, suc, ◌^◌, ◌≤◌, ◌<◌}
use native.Mathlib.Omega.{arith}
use lib.Dec.{T, T_not, not_T, eqb, eqb→eq, eqb_refl, ltb, ltb→lt, leb, leb→le}
use lib.ListN.{get_or, length, set, get_or-append}
use lib.Seq.{get_or-append_seam}
use lib.Count.{ones}
use borrow.Author.Tests.{eqb-false}
use Rattle.mask.specs.Range.{some, each, count}
use Rattle.mask.specs.Mask.{bit, mask_of}
use Rattle.mask.proofs.Logic.{same, holds, clash, test, by_eq, and_in, and_out, and_keep}
use Rattle.mask.proofs.Range.{each_out, each_in, some_out, some_in, count_same}
use Rattle.mask.proofs.Bits.{bit_of_zero, bit_ext, ones-count}
use Rattle.mask.proofs.Masks.{mask_of_lt, bit-mask_of}
use Rattle.game.specs.Problem.{Problem}
use Rattle.game.specs.Game.{turn, satisfied, wins, narrow}
use Rattle.game.specs.Lists.{wins_over, domains, masks_of, narrow_to}
use Rattle.game.specs.Position.{play_of, legal, narrowed, position, placed}
use Rattle.game.specs.Calls.{Call, play, take_back, lock, unlock, PlainList, nothing_stands, without_last, after_call, standing_from, standing}
use Rattle.game.specs.Open.{is_open, open_values, open_counts}
use Rattle.game.specs.Winning.{verdict, winning_values}
use Rattle.game.specs.Turn.{first_list}
use Rattle.theory.specs.TurnList.{AtTurn}
use Rattle.theory.proofs.Transfer
use Rattle.theory.proofs.Transfer.{Inside, turn_cong}
use Rattle.theory.proofs.Swap.{start}
use Rattle.theory.proofs.Laws
use Rattle.theory.proofs.Lists
use Rattle.theory.proofs.Lists.{some_value_lem, over-start, file_masks, narrowed_unplayed}
use Rattle.theory.proofs.TurnLists.{at_lent, at_state, first-list, legal_out, legal_in, snoc_length}

-- One more play narrows one more variable.
narrowed_snoc : (l p : List ℕ) (a : ℕ) → length p < length l → narrowed l (p ++ (a ∷ [])) ≡ set (narrowed l p) (length p) (2 ^ a)
unfolding narrowed
narrowed_snoc [] p a h = absurd (omega arith)
narrowed_snoc (m ∷ l) [] a h = refl
narrowed_snoc (m ∷ l) (v ∷ p) a h = ap {B = List ℕ} (λ r. 2 ^ v ∷ r) (narrowed_snoc l p a (omega arith))

-- The list without its last element has the elements before it.
pub length-without_last : (x : ℕ) (l : List ℕ) → length (without_last (x ∷ l)) ≡ length l
unfolding without_last
length-without_last x [] = refl
length-without_last x (y ∷ l) = ap suc (length-without_last y l)

without_length : (p : List ℕ) → length (without_last p) ≤ length p
unfolding without_last
without_length [] = omega arith
without_length (a ∷ p) = let e = length-without_last a p in omega arith

without_same : (p : List ℕ) (j : ℕ) → j < length (without_last p) → get_or (without_last p) j 0 ≡ get_or p j 0
unfolding without_last
without_same [] j h = refl
without_same (a ∷ []) j h = absurd (omega arith)
without_same (a ∷ (b ∷ p)) zero h = refl
without_same (a ∷ (b ∷ p)) (suc j) h = without_same (b ∷ p) j (omega arith)

-- A list longer than d has at least d elements without its last.
held_without : (p : List ℕ) (d : ℕ) → d ≤ length p → eqb (length p) d ≡ false → d ≤ length (without_last p)
unfolding without_last
held_without [] d h e = h
held_without (x ∷ p) d h e = let r = length-without_last x p in let q = eqb-false (length (x ∷ p)) d e in omega arith

module _ (P : Problem) where
  open P use {n, domain, universal, compatible}

  -- Every list of plays that stands is a position.
  pub legal_none : T (legal P [])
  legal_none = legal_in P [] (omega arith) (λ j h. absurd (omega arith))

  -- One more play in its domain, and one play fewer.
  pub legal_snoc : (p : List ℕ) (a : ℕ) → T (legal P p) → length p < n → T (domains domain (length p) a) → T (legal P (p ++ (a ∷ [])))
  legal_snoc p a t h m =
      let e = snoc_length P p a in
      legal_in P (p ++ (a ∷ [])) (omega arith) λ j k. by_eq j (length p) (λ z. rw (z, get_or-append_seam p a [] 0) m)
      (λ z. let b : j < length p = omega arith in rw (get_or-append p (a ∷ []) 0 j b) ((legal_out P p t).1 j b))

  legal_without : (p : List ℕ) → T (legal P p) → T (legal P (without_last p))
  legal_without p t =
      let r = legal_out P p t in
      let k = r.0 in
      let e = without_length p in
      legal_in P (without_last p) (omega arith) (λ j h. rw (without_same p j h) (r.1 j (omega arith)))

  pub legal-after : (s : PlainList) (c : Call) → T (legal P s.plays) → T (legal P (after_call P s c).plays)
  unfolding after_call
  legal-after s (play a) t =
      let p = s.plays in
      test (ltb (length p) n && domains domain (length p) a)
      (λ u. let r = and_out (ltb (length p) n) (domains domain (length p) a) u in
      rw (holds {b = ltb (length p) n && domains domain (length p) a} u) (legal_snoc p a t (ltb→lt (length p) n r.0) r.1))
      (λ e. rw e t)
  legal-after s take_back t = test (eqb (length s.plays) s.depth) (λ u. rw (holds {b = eqb (length s.plays) s.depth} u) t) (λ e. rw e (legal_without s.plays t))
  legal-after s lock t = t
  legal-after s (unlock k) t = t

  standing-from : (s : PlainList) (cs : List Call) → T (legal P s.plays) → T (legal P (standing_from P s cs).plays)
  unfolding standing_from
  standing-from s [] t = t
  standing-from s (c ∷ cs) t = standing-from (after_call P s c) cs (legal-after s c t)

  pub standing-legal : (cs : List Call) → T (legal P (standing P cs).plays)
  unfolding standing
  standing-legal cs = standing-from nothing_stands cs legal_none

  -- No more plays are held than stand.
  pub depth_after : (s : PlainList) (c : Call) → s.depth ≤ length s.plays → (after_call P s c).depth ≤ length (after_call P s c).plays
  unfolding after_call
  depth_after s (play a) h =
      let p = s.plays in
      let e = snoc_length P p a in
      test (ltb (length p) n && domains domain (length p) a)
      (λ u. rw (holds {b = ltb (length p) n && domains domain (length p) a} u) (omega arith))
      (λ e. rw e h)
  depth_after s take_back h = test (eqb (length s.plays) s.depth) (λ u. rw (holds {b = eqb (length s.plays) s.depth} u) h) (λ e. rw e (held_without s.plays s.depth h e))
  depth_after s lock h = omega arith
  depth_after s (unlock k) h = test (leb k s.depth) (λ u. let m = leb→le k s.depth u in rw (holds {b = leb k s.depth} u) (omega arith)) (λ e. rw e h)

  depth_from : (s : PlainList) (cs : List Call) → s.depth ≤ length s.plays → (standing_from P s cs).depth ≤ length (standing_from P s cs).plays
  unfolding standing_from
  depth_from s [] h = h
  depth_from s (c ∷ cs) h = depth_from (after_call P s c) cs (depth_after s c h)

  pub standing_depth_lem : (cs : List Call) → (standing P cs).depth ≤ length (standing P cs).plays
  unfolding standing
  standing_depth_lem cs = depth_from nothing_stands cs (omega arith)

  -- The verdict of a position -----------------------------------------------------------------------------------------------
  module _ (p : List ℕ) (t : T (legal P p)) where
    -- The position as the list of a first turn.
    at : AtTurn P p (position P p)
    unfolding first_list
    at = first-list P p t

    depth : length p ≤ n
    depth = (legal_out P p t).0

    over : verdict P p ≡ start P (domains (position P p))
    unfolding verdict
    over = over-start P (position P p)

    -- The same over domains: the plays lie inside the file's, and the position is these with the plays narrowed.
    pub legal_inside : Inside (domains domain) (length p) (play_of p)
    unfolding play_of
    legal_inside j h = let m = (legal_out P p t).1 j h in ((Lists.domains_boxed n domain (file_masks P) j (get_or p j 0) m).1, m)

    pub position-placed : domains (position P p) ≡ placed (domains domain) (length p) (play_of p)
    unfolding position
    position-placed = let e = P.sized in let d = depth in Lists.domains-narrowed domain p (omega arith)

    pub verdict-placed : verdict P p ≡ wins n universal compatible (placed (domains domain) (length p) (play_of p))
    unfolding verdict wins_over
    verdict-placed = ap (wins n universal compatible) position-placed

    -- Played out: every constraint holds.
    pub verdict_end : length p ≡ n → verdict P p ≡ satisfied compatible n (play_of p)
    verdict_end e =
        over ∙ Laws.start_at P (domains (position P p)) n (play_of p) (omega arith) (λ j h. (at_state P p (position P p) at).played j (omega arith))
        ∙ Transfer.from_end n universal (satisfied compatible n) (domains (position P p)) (play_of p)

    module _ (h : length p < n) where
      after_play : (a : ℕ) → verdict P (p ++ (a ∷ [])) ≡ start P (narrow (domains (position P p)) (length p) a)
      unfolding verdict position narrow_to
      after_play a =
          let e = P.sized in
          over-start P (narrowed domain (p ++ (a ∷ []))) ∙ rw (narrowed_snoc domain p a (omega arith))
          (ap (start P) (Lists.domains-narrow_to n (narrowed domain p) (length p) a h (at_lent P p (position P p) at).masks))

      next-domain : domains (position P p) (length p) ≡ domains domain (length p)
      unfolding position domains
      next-domain = fun_ext λ a. rw (narrowed_unplayed domain p (length p) (omega arith))

      -- A turn: some value of an existential variable leads to a win, every value of a universal one does.
      pub verdict-next : verdict P p ≡ turn (universal (length p)) (domains domain (length p)) (λ a. verdict P (p ++ (a ∷ [])))
      verdict-next =
          over ∙ Laws.play P (domains (position P p)) (length p) (play_of p) h (at_state P p (position P p) at).played
          ∙ turn_cong (universal (length p)) (domains (position P p) (length p)) (λ a. start P (narrow (domains (position P p)) (length p) a)) (λ a. verdict P (p ++ (a ∷ []))) (λ a m. sym (after_play a))
          ∙ ap (λ (d : ℕ → Bool). turn (universal (length p)) d (λ a. verdict P (p ++ (a ∷ [])))) next-domain

  pub winning_is : (p : List ℕ) (a : ℕ) → a < 16 → bit (winning_values P p) a ≡ (domains domain (length p) a && verdict P (p ++ (a ∷ [])))
  unfolding winning_values
  winning_is p a h = bit-mask_of 16 (λ a. domains domain (length p) a && verdict P (p ++ (a ∷ []))) a h

  -- The verdict from the mask of winning values: some value wins, or all values of the domain do.
  module _ (p : List ℕ) (t : T (legal P p)) (h : length p < n) where
    abbrev wins_with : ℕ → Bool
    wins_with a = verdict P (p ++ (a ∷ []))

    pub winning_existential : universal (length p) ≡ false → verdict P p ≡ not (eqb (winning_values P p) 0)
    unfolding turn winning_values
    winning_existential s =
        verdict-next p t h ∙ rw s (same (some 16 d wins_with) (not (eqb m 0))
        (λ u. let r = some_out 16 d wins_with u in
        not_T (eqb m 0) λ z. clash {b = bit m r.0} (rw (eqb→eq m 0 z) (bit_of_zero r.0)) (rw (bit-mask_of 16 (λ a. d a && wins_with a) r.0 r.1) (and_in (d r.0) (wins_with r.0) r.2 r.3)))
        (λ u. let v = some_value_lem P m (mask_of_lt 16 (λ a. d a && wins_with a)) (λ z. T_not (eqb m 0) u (rw z (eqb_refl 0))) in
        let q = and_out (d v.0) (wins_with v.0) (rw (bit-mask_of 16 (λ a. d a && wins_with a) v.0 v.1.0) at v.1.1) in
        some_in 16 d wins_with v.0 v.1.0 q.0 q.1))
      where
        d : ℕ → Bool
        d = domains domain (length p)

        m : ℕ
        m = mask_of 16 (λ a. domains domain (length p) a && wins_with a)

    pub winning_universal : universal (length p) ≡ true → verdict P p ≡ eqb (winning_values P p) (get_or domain (length p) 0)
    unfolding turn winning_values domains
    winning_universal s =
        verdict-next p t h ∙ rw s (same (each 16 d wins_with) (eqb m w)
        (λ u. rw (bit_ext 16 m w (mask_of_lt 16 (λ a. d a && wins_with a)) (P.bounded (length p)) (λ k l. bit-mask_of 16 (λ a. d a && wins_with a) k l ∙ and_keep (d k) (wins_with k) (each_out 16 d wins_with u k l))) (eqb_refl w))
        (λ u. each_in 16 d wins_with λ a l v. let b : T (bit m a) = rw (eqb→eq m w u) v in (and_out (d a) (wins_with a) (rw (bit-mask_of 16 (λ a. d a && wins_with a) a l) at b)).1))
      where
        d : ℕ → Bool
        d = bit (get_or domain (length p) 0)

        w : ℕ
        w = get_or domain (length p) 0

        m : ℕ
        m = mask_of 16 (λ a. bit (get_or domain (length p) 0) a && wins_with a)

  -- The count of open values is the number of ones of their mask.
  pub open_count : (p : List ℕ) (j : ℕ) → j < n → get_or (open_counts P p) j 0 ≡ ones (get_or (open_values P p) j 0)
  unfolding open_counts open_values masks_of
  open_count p j h =
      Lists.get_d_list_of n (λ j. count 16 (is_open P p j)) j h ∙ sym (rw (Lists.get_d_list_of n (λ i. mask_of 16 (is_open P p i)) j h)
      (ones-count 16 (mask_of 16 (is_open P p j)) (mask_of_lt 16 (is_open P p j)) ∙ count_same 16 (bit (mask_of 16 (is_open P p j))) (is_open P p j) (λ a l. bit-mask_of 16 (is_open P p j) a l)))
