-- What the turn below is handed: the list narrowed to a value, the reasons with that of the played variable.
use mathlib.Core.Path.{◌≡◌, refl, sym, ap, subst, ◌∙◌}
use mathlib.Core.List.{List, ◌++◌}
use mathlib.Core.Logic.{◌⊎◌, inl, inr}
use Prim.Native.Nat.{ℕ, ◌+◌, ◌-◌, ◌*◌, ◌/◌, ◌%◌, ◌^◌, ◌≤◌, ◌<◌}
use native.Mathlib.Omega.{arith}
use lib.ListN.{get_or, length, set, take, drop, length-set, length-drop}
use borrow.Rule.Slice.PartMut.{put_mid}
use lib.Pow.{pow-lt}
use lib.Seq.{ext_get_or, get_or-set_same, get_or-set_other, get_or-take, get_or-drop, length-take-le}
use Rattle.mask.proofs.Logic.{by_eq, by_lt}
use Rattle.game.specs.Lists.{narrow_to}
use Rattle.game.specs.Reasons.{next_reasons}
use Rattle.theory.proofs.ReasonLists.{next_reasons-length}
use Rattle.solver_arrays.specs.Words.{list_in, why_in, reason_in, put_reason}
use Rattle.solver_arrays.proofs.WordLaws.{length-list_in, length-why_in, get_d_list_in, get_d_why_in, length-put_reason, put_other, put-domain, put_same, put_apart, reason_set}
use Rattle.search_words.specs.TurnRoom.{with_play, handed_down}
use Rattle.search_words.specs.TurnSets.{ReasonsBelow}
use Rattle.search_words.proofs.RoomLaws.{length_run, run_at, run_other, length_part, part_at, part_other, length_own, own_at, below_at, parts_joined}

-- The same store in two lists that agree at j.
kept_at : (x y : List ℕ) (i j v : ℕ) → i < length x → i < length y → get_or x j 0 ≡ get_or y j 0 → get_or (set x i v) j 0 ≡ get_or (set y i v) j 0
kept_at x y i j v p q e = by_eq j i
    (λ z. rw z (get_or-set_same x i v 0 p ∙ sym (get_or-set_same y i v 0 q)))
    (λ z. get_or-set_other x i j v 0 z ∙ e ∙ sym (get_or-set_other y i j v 0 z))

-- Narrowing keeps the length.
length-narrow_to : (l : List ℕ) (i a : ℕ) → length (narrow_to l i a) ≡ length l
unfolding narrow_to
length-narrow_to l i a = length-set l i (2 ^ a)

-- What is handed down, word by word: a play in the words from 128 on, all else as it was.
pub length-handed_down : (d a : ℕ) (w : List ℕ) → length (handed_down d a w) ≡ length w
unfolding handed_down
length-handed_down d a w = length_run 128 224 _ w

handed_down_at : (d a : ℕ) (w : List ℕ) (j : ℕ) → 224 ≤ length w → j < 96 → get_or (handed_down d a w) (128 + j) 0 ≡ get_or (with_play d a w) j 0
unfolding handed_down
handed_down_at d a w j b h =
    let e : 128 + j - 128 ≡ j = omega arith in
    run_at 128 224 (λ k. get_or (with_play d a w) (k - 128) 0) w (128 + j) (omega arith) (omega arith) (omega arith)
    ∙ ap (λ i. get_or (with_play d a w) i 0) e

pub handed_down_other : (d a : ℕ) (w : List ℕ) (k : ℕ) → (k < 128) ⊎ (224 ≤ k) → get_or (handed_down d a w) k 0 ≡ get_or w k 0
unfolding handed_down
handed_down_other d a w k o = run_other 128 224 _ w k o

-- Words with a play agree where the words do.
play_at : (d a : ℕ) (x w : List ℕ) (j : ℕ) → d < 32 → 96 ≤ length x → 96 ≤ length w → get_or x j 0 ≡ get_or w j 0 → get_or (with_play d a x) j 0 ≡ get_or (with_play d a w) j 0
unfolding with_play put_reason
play_at d a x w j h b c e =
    let y = set x d (2 ^ a) in
    let v = set w d (2 ^ a) in
    let p = length-set x d (2 ^ a) in
    let q = length-set w d (2 ^ a) in
    let r = length-set y (32 + 2 * d) (2 ^ d % 65536) in
    let s = length-set v (32 + 2 * d) (2 ^ d % 65536) in
    kept_at (set y (32 + 2 * d) (2 ^ d % 65536)) (set v (32 + 2 * d) (2 ^ d % 65536)) (33 + 2 * d) j (2 ^ d / 65536) (omega arith) (omega arith)
    (kept_at y v (32 + 2 * d) j (2 ^ d % 65536) (omega arith) (omega arith)
    (kept_at x w d j (2 ^ a) (omega arith) (omega arith) e))

-- A play leaves the words behind the reasons.
play_behind : (d a : ℕ) (x : List ℕ) (j : ℕ) → d < 32 → 96 ≤ j → get_or (with_play d a x) j 0 ≡ get_or x j 0
unfolding with_play
play_behind d a x j h l = put_other (set x d (2 ^ a)) d (2 ^ d) j (inr (omega arith)) ∙ get_or-set_other x d j (2 ^ a) 0 (omega arith)

length-with_play : (d a : ℕ) (x : List ℕ) → length (with_play d a x) ≡ length x
unfolding with_play
length-with_play d a x = length-put_reason (set x d (2 ^ a)) d (2 ^ d) ∙ length-set x d (2 ^ a)

-- What the code stores: the first 96 words x copied to those below, then the play there.
pub hand_is :
    (d a : ℕ) (w own below x : List ℕ) (s r : ℕ) → d < 32 → 256 ≤ length w → own ≡ take 128 w → below ≡ drop 128 w
    → x ≡ take 96 own → s ≡ 2 ^ a → r ≡ 2 ^ d
    → own ++ put_reason (set (put_mid 0 96 below x) d s) d r ≡ handed_down d a w
unfolding with_play
hand_is d a w own below x s r h b o l f p q =
    let e : length x ≡ 96 = ap length f ∙ length-take-le 96 own (omega (arith, length_own w own below b o l)) in
    let C = put_mid 0 96 below x in
    let long : 0 + 96 ≤ length below = omega (arith, ap length l, length-drop 128 w) in
    let size = length_part 0 96 below x long e in
    let full : 96 ≤ length C = omega (arith, size, long) in
    rw (p, q) (parts_joined w own below b o l own (with_play d a C) (handed_down d a w) refl (length-with_play d a C ∙ size) (length-handed_down d a w)
    (λ k m. own_at w own below b o l k m ∙ sym (handed_down_other d a w k (inl m)))
    (λ k. by_lt k 96
    (λ m.
    play_at d a C w k h full (omega arith) (let z : k ≡ 0 + k = omega arith in ap (λ i. get_or C i 0) z ∙ part_at 0 96 below x long e k m ∙ ap (λ u. get_or u k 0) f ∙ get_or-take 96 own k 0 m ∙ own_at w own below b o l k (omega arith))
    ∙ sym (handed_down_at d a w k (omega arith) m))
    (λ m. play_behind d a C k h m ∙ part_other 0 96 below x long e k (inr m) ∙ below_at w own below b o l k ∙ sym (handed_down_other d a w (128 + k) (inr (omega arith))))))

-- The list and the reasons of the turn below -----------------------------------------------------------------------
module _ (n d a : ℕ) (b : n ≤ 32) (h : d < n) (w : List ℕ) (m : 256 ≤ length w) where
  -- The domains and reasons of the words with a play are those of the game.
  play_domain : (i : ℕ) → i < n → get_or (with_play d a w) i 0 ≡ get_or (narrow_to (list_in n w) d a) i 0
  unfolding with_play narrow_to
  play_domain i l =
      let e = length-list_in n w in
      put-domain (set w d (2 ^ a)) d (2 ^ d) i (omega arith)
      ∙ by_eq i d
      (λ z. rw z (get_or-set_same w d (2 ^ a) 0 (omega arith) ∙ sym (get_or-set_same (list_in n w) d (2 ^ a) 0 (omega arith))))
      (λ z. get_or-set_other w d i (2 ^ a) 0 z ∙ sym (get_or-set_other (list_in n w) d i (2 ^ a) 0 z ∙ get_d_list_in n w i l))

  play_reason : (i : ℕ) → i < n → reason_in (with_play d a w) i ≡ get_or (next_reasons (why_in n w) d) i 0
  unfolding with_play next_reasons narrow_to
  play_reason i l =
      let e = length-why_in n w in
      let v = set w d (2 ^ a) in
      let p = length-set w d (2 ^ a) in
      by_eq i d
      (λ z. rw z (put_same v d (2 ^ d) (omega arith) (omega arith) ∙ sym (get_or-set_same (why_in n w) d (2 ^ d) 0 (omega arith))))
      (λ z. put_apart v d (2 ^ d) i z ∙ reason_set w d (2 ^ a) i (omega arith) ∙ sym (get_or-set_other (why_in n w) d i (2 ^ d) 0 z ∙ get_d_why_in n w i l))

  -- A reason in the turn below is that of the words with the play.
  reason_below : (i : ℕ) → i < n → reason_in (drop 128 (handed_down d a w)) i ≡ reason_in (with_play d a w) i
  unfolding reason_in
  reason_below i l =
      let x = handed_down d a w in
      rw (
        get_or-drop 128 x (32 + 2 * i) 0,
        get_or-drop 128 x (33 + 2 * i) 0,
        handed_down_at d a w (32 + 2 * i) (omega arith) (omega arith),
        handed_down_at d a w (33 + 2 * i) (omega arith) (omega arith),
      )

  -- The list of the turn below is this one's, narrowed to the played value.
  pub list-below : list_in n (drop 128 (handed_down d a w)) ≡ narrow_to (list_in n w) d a
  list-below =
      let x = drop 128 (handed_down d a w) in
      let e = length-list_in n x in
      ext_get_or 0 (list_in n x) (narrow_to (list_in n w) d a) (e ∙ sym (length-narrow_to (list_in n w) d a ∙ length-list_in n w)) λ i l.
      get_d_list_in n x i (omega arith) ∙ get_or-drop 128 (handed_down d a w) i 0 ∙ handed_down_at d a w i (omega arith) (omega arith) ∙ play_domain i (omega arith)

  -- Its reasons are this one's, and the played variable is its own.
  pub why-below : why_in n (drop 128 (handed_down d a w)) ≡ next_reasons (why_in n w) d
  why-below =
      let x = drop 128 (handed_down d a w) in
      let e = length-why_in n x in
      ext_get_or 0 (why_in n x) (next_reasons (why_in n w) d) (e ∙ sym (next_reasons-length (why_in n w) d ∙ length-why_in n w)) λ i l.
      get_d_why_in n x i (omega arith) ∙ reason_below i (omega arith) ∙ play_reason i (omega arith)

  -- Reasons that are sets of the n variables stay such.
  pub sets_below : ReasonsBelow n w → ReasonsBelow n (drop 128 (handed_down d a w))
  unfolding next_reasons narrow_to
  sets_below f i l =
      let e = length-why_in n w in
      subst (λ x. x < 2 ^ n) (sym (reason_below i l ∙ play_reason i l)) (by_eq i d
      (λ z. rw (z, get_or-set_same (why_in n w) d (2 ^ d) 0 (omega arith)) (pow-lt h))
      (λ z. rw (get_or-set_other (why_in n w) d i (2 ^ d) 0 z, get_d_why_in n w i l) (f i l)))
