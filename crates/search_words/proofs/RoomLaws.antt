-- The room of a turn: what each word is after words were cleared, copied, handed down or taken up.
use mathlib.Core.Path.{◌≡◌, refl, sym, ap, ◌∙◌}
use mathlib.Core.Bool.{Bool, true, false, cond, ◌&&◌}
use mathlib.Core.List.{List, ◌++◌}
use mathlib.Core.Logic.{◌⊎◌, inl, inr, ⊎_elim}
use Prim.Native.Nat.{ℕ, ◌+◌, ◌-◌, ◌≤◌, ◌<◌}
use native.Mathlib.Omega.{arith}
use lib.Dec.{leb}
use lib.ListN.{get_or, length, take, drop, replicate, get_or-eq_default, length-drop, length-append, get_or-append, length-replicate}
use lib.Seq.{ext_get_or, get_or-take, get_or-drop, get_or-append-add, length-take-le}
use Rattle.std.proofs.lemmas.List.{get_or-replicate}
use borrow.Rule.Slice.PartMut.{put_mid, post_of}
use borrow.Author.Tests.{lt-ltb, le-ltb, le-leb, lt-leb}
use Rattle.mask.proofs.Logic.{by_lt}
use Rattle.theory.proofs.Lists.{length-list_of, get_d_list_of, get_d_beyond}
use Rattle.search_words.specs.TurnRoom.{with_run, zeroed, copied, leaf_taken}

-- A run of words put in: its length, its words, the other words --------------------------------------------------
module _ (s t : ℕ) (f : ℕ → ℕ) (w : List ℕ) where
  pub length_run : length (with_run s t f w) ≡ length w
  unfolding with_run
  length_run = length-list_of (length w) _

  pub run_at : (k : ℕ) → s ≤ k → k < t → k < length w → get_or (with_run s t f w) k 0 ≡ f k
  unfolding with_run
  run_at k p q h = get_d_list_of (length w) _ k h ∙ rw (le-leb s k p, lt-ltb k t q)

  pub run_other : (k : ℕ) → (k < s) ⊎ (t ≤ k) → get_or (with_run s t f w) k 0 ≡ get_or w k 0
  unfolding with_run
  run_other k o =
      by_lt k (length w)
      (λ h. get_d_list_of (length w) _ k h ∙ ⊎_elim (λ p. rw (lt-leb s k p)) (λ p. rw (le-ltb k t p) (off (leb s k))) o)
      (λ h. get_d_beyond (length w) _ k h ∙ sym (get_or-eq_default w 0 h))
    where
      off : (b : Bool) → cond (b && false) (f k) (get_or w k 0) ≡ get_or w k 0
      off true = refl
      off false = refl

-- The v words of w from s on, with x in their place.
module _ (s v : ℕ) (w x : List ℕ) (b : s + v ≤ length w) (e : length x ≡ v) where
  abbrev part : List ℕ
  part = put_mid s v w x

  front : length (take s w) ≡ s
  front = length-take-le s w (omega arith)

  behind : (k : ℕ) → get_or (post_of s v w) k 0 ≡ get_or w (s + v + k) 0
  behind k = get_or-drop v (drop s w) k 0 ∙ get_or-drop s w (v + k) 0 ∙ ap (λ i. get_or w i 0) (let z : s + (v + k) ≡ s + v + k = omega arith in z)

  pub length_part : length part ≡ length w
  length_part = omega (arith, length-append (take s w) (x ++ post_of s v w), length-append x (post_of s v w), length-drop v (drop s w), length-drop s w, front)

  pub part_at : (k : ℕ) → k < v → get_or part (s + k) 0 ≡ get_or x k 0
  part_at k h =
      ap (λ i. get_or part i 0) (let z : s + k ≡ length (take s w) + k = omega (arith, front) in z)
      ∙ get_or-append-add (take s w) (x ++ post_of s v w) k 0 ∙ get_or-append x (post_of s v w) 0 k (omega arith)

  pub part_other : (k : ℕ) → (k < s) ⊎ (s + v ≤ k) → get_or part k 0 ≡ get_or w k 0
  part_other k o = ⊎_elim
      (λ p. get_or-append (take s w) (x ++ post_of s v w) 0 k (omega (arith, front)) ∙ get_or-take s w k 0 p)
      (λ p.
      ap (λ i. get_or part i 0) (let z : k ≡ length (take s w) + (length x + (k - s - v)) = omega (arith, front) in z)
      ∙ get_or-append-add (take s w) (x ++ post_of s v w) (length x + (k - s - v)) 0
      ∙ get_or-append-add x (post_of s v w) (k - s - v) 0
      ∙ behind (k - s - v)
      ∙ ap (λ i. get_or w i 0) (let z : s + v + (k - s - v) ≡ k = omega arith in z))
      o

  -- It is the run of words that x holds.
  pub part_run : (t : ℕ) (f : ℕ → ℕ) → t ≡ s + v → ((k : ℕ) → k < v → get_or x k 0 ≡ f (s + k)) → part ≡ with_run s t f w
  part_run t f q g = ext_get_or 0 part (with_run s t f w) (length_part ∙ sym (length_run s t f w)) λ k h. by_lt k s
      (λ p. part_other k (inl p) ∙ sym (run_other s t f w k (inl p)))
      (λ p. by_lt k t
      (λ r. let z : k ≡ s + (k - s) = omega arith in rw z (part_at (k - s) (omega arith) ∙ g (k - s) (omega arith) ∙ sym (run_at s t f w (s + (k - s)) (omega arith) (omega arith) (omega (arith, length_part)))))
      (λ r. part_other k (inr (omega arith)) ∙ sym (run_other s t f w k (inr r))))

-- Words zeroed ---------------------------------------------------------------------------------------------------
pub length-zeroed : (s t : ℕ) (w : List ℕ) → length (zeroed s t w) ≡ length w
unfolding zeroed
length-zeroed s t w = length_run s t _ w

pub zeroed_at : (s t : ℕ) (w : List ℕ) (k : ℕ) → s ≤ k → k < t → k < length w → get_or (zeroed s t w) k 0 ≡ 0
unfolding zeroed
zeroed_at s t w k p q h = run_at s t (λ k. 0) w k p q h

pub zeroed_other : (s t : ℕ) (w : List ℕ) (k : ℕ) → (k < s) ⊎ (t ≤ k) → get_or (zeroed s t w) k 0 ≡ get_or w k 0
unfolding zeroed
zeroed_other s t w k o = run_other s t (λ k. 0) w k o

-- The words of a part cleared.
pub zeroed_part : (s t : ℕ) (w x : List ℕ) → s ≤ t → t ≤ length w → x ≡ replicate (length (take (t - s) (drop s w))) 0 → put_mid s (t - s) w x ≡ zeroed s t w
unfolding zeroed
zeroed_part s t w x h b e =
    let d : length (take (t - s) (drop s w)) ≡ t - s = length-take-le (t - s) (drop s w) (omega (arith, length-drop s w)) in
    let z : x ≡ replicate (t - s) 0 = e ∙ ap (λ n. replicate n 0) d in
    part_run s (t - s) w x (omega arith) (ap length z ∙ length-replicate {A = ℕ} (t - s) 0) t (λ k. 0) (omega arith)
    λ k l. ap (λ y. get_or y k 0) z ∙ get_or-replicate {A = ℕ} (t - s) k 0 0 l

-- Words moved ---------------------------------------------------------------------------------------------------
pub length-copied : (s t v : ℕ) (w : List ℕ) → length (copied s t v w) ≡ length w
unfolding copied
length-copied s t v w = length_run t (t + v) _ w

pub copied_at : (s t v : ℕ) (w : List ℕ) (k : ℕ) → k < v → t + v ≤ length w → get_or (copied s t v w) (t + k) 0 ≡ get_or w (s + k) 0
unfolding copied
copied_at s t v w k h b =
    run_at t (t + v) (λ k. get_or w (s + (k - t)) 0) w (t + k) (omega arith) (omega arith) (omega arith)
    ∙ ap (λ i. get_or w i 0) (let e : s + (t + k - t) ≡ s + k = omega arith in e)

pub copied_other : (s t v : ℕ) (w : List ℕ) (k : ℕ) → (k < t) ⊎ (t + v ≤ k) → get_or (copied s t v w) k 0 ≡ get_or w k 0
unfolding copied
copied_other s t v w k o = run_other t (t + v) _ w k o

-- What the search needs of each step: length, the words that change, the words that stay --------------------------
pub length-leaf_taken : (w : List ℕ) → length (leaf_taken w) ≡ length w
unfolding leaf_taken
length-leaf_taken w = length-zeroed 224 256 (copied 224 96 32 w) ∙ length-copied 224 96 32 w

-- The leaf is the one from below, and none is left there.
pub leaf_taken_at : (w : List ℕ) (j : ℕ) → 128 ≤ length w → j < 32 → get_or (leaf_taken w) (96 + j) 0 ≡ get_or w (224 + j) 0
unfolding leaf_taken zeroed
leaf_taken_at w j b h = run_other 224 256 (λ k. 0) (copied 224 96 32 w) (96 + j) (inl (omega arith)) ∙ copied_at 224 96 32 w j h b

pub leaf_taken-below : (w : List ℕ) (k : ℕ) → 256 ≤ length w → 224 ≤ k → k < 256 → get_or (leaf_taken w) k 0 ≡ 0
unfolding leaf_taken zeroed
leaf_taken-below w k b p q = let e = length-copied 224 96 32 w in run_at 224 256 (λ k. 0) (copied 224 96 32 w) k p q (omega arith)

pub leaf_taken_other : (w : List ℕ) (k : ℕ) → (k < 96) ⊎ (128 ≤ k) → (k < 224) ⊎ (256 ≤ k) → get_or (leaf_taken w) k 0 ≡ get_or w k 0
unfolding leaf_taken zeroed
leaf_taken_other w k o p = run_other 224 256 (λ k. 0) (copied 224 96 32 w) k p ∙ copied_other 224 96 32 w k o

-- The room parted into a turn's own words and those below ----------------------------------------------------------
module _ (w own below : List ℕ) (b : 256 ≤ length w) (o : own ≡ take 128 w) (l : below ≡ drop 128 w) where
  pub length_own : length own ≡ 128
  length_own = ap length o ∙ length-take-le 128 w (omega arith)

  length_below : length below ≡ length w - 128
  length_below = ap length l ∙ length-drop 128 w

  pub own_at : (k : ℕ) → k < 128 → get_or own k 0 ≡ get_or w k 0
  own_at k h = ap (λ y. get_or y k 0) o ∙ get_or-take 128 w k 0 h

  pub below_at : (k : ℕ) → get_or below k 0 ≡ get_or w (128 + k) 0
  below_at k = ap (λ y. get_or y k 0) l ∙ get_or-drop 128 w k 0

  -- Both put together again.
  pub parts_joined : (p q u : List ℕ) → length p ≡ length own → length q ≡ length below → length u ≡ length w
      → ((k : ℕ) → k < 128 → get_or p k 0 ≡ get_or u k 0) → ((k : ℕ) → get_or q k 0 ≡ get_or u (128 + k) 0) → p ++ q ≡ u
  parts_joined p q u e f g first second =
      ext_get_or 0 (p ++ q) u (omega (arith, length-append p q, length_own, length_below)) λ k h. by_lt k 128
      (λ m. get_or-append p q 0 k (omega (arith, length_own)) ∙ first k m)
      (λ m.
      let z : k ≡ length p + (k - 128) = omega (arith, length_own) in
      let y : 128 + (k - 128) ≡ k = omega arith in
      ap (λ i. get_or (p ++ q) i 0) z ∙ get_or-append-add p q (k - 128) 0 ∙ second (k - 128) ∙ ap (λ i. get_or u i 0) y)

  -- The leaf of the words below put into the own ones, and cleared there.
  pub leaf_is : (v : ℕ) (x y : List ℕ) → v ≡ 32 → x ≡ take 32 (drop 96 below) → y ≡ replicate (length (take 32 (drop 96 below))) 0
      → put_mid 96 v own x ++ put_mid 96 32 below y ≡ leaf_taken w
  leaf_is v x y d f g =
      let h : length (take 32 (drop 96 below)) ≡ 32 = length-take-le 32 (drop 96 below) (omega (arith, length-drop 96 below, length_below)) in
      let e : length x ≡ 32 = ap length f ∙ h in
      let z : y ≡ replicate 32 0 = g ∙ ap (λ n. replicate n 0) h in
      let cleared : length y ≡ 32 = ap length z ∙ length-replicate {A = ℕ} 32 0 in
      let short : 96 + 32 ≤ length own = omega (arith, length_own) in
      let long : 96 + 32 ≤ length below = omega (arith, length_below) in
      ap (λ v. put_mid 96 v own x ++ put_mid 96 32 below y) d
      ∙ parts_joined (put_mid 96 32 own x) (put_mid 96 32 below y) (leaf_taken w) (length_part 96 32 own x short e) (length_part 96 32 below y long cleared) (length-leaf_taken w)
      (λ k h. by_lt k 96
      (λ m. part_other 96 32 own x short e k (inl m) ∙ own_at k h ∙ sym (leaf_taken_other w k (inl m) (inl (omega arith))))
      (λ m.
      let i : k ≡ 96 + (k - 96) = omega arith in
      let j : 128 + (96 + (k - 96)) ≡ 224 + (k - 96) = omega arith in
      rw i (part_at 96 32 own x short e (k - 96) (omega arith)
      ∙ ap (λ u. get_or u (k - 96) 0) f ∙ get_or-take 32 (drop 96 below) (k - 96) 0 (omega arith) ∙ get_or-drop 96 below (k - 96) 0
      ∙ below_at (96 + (k - 96)) ∙ ap (λ i. get_or w i 0) j
      ∙ sym (leaf_taken_at w (k - 96) (omega arith) (omega arith)))))
      (λ k. by_lt k 96
      (λ m. part_other 96 32 below y long cleared k (inl m) ∙ below_at k ∙ sym (leaf_taken_other w (128 + k) (inr (omega arith)) (inl (omega arith))))
      (λ m. by_lt k 128
      (λ n.
      let i : k ≡ 96 + (k - 96) = omega arith in
      rw i (part_at 96 32 below y long cleared (k - 96) (omega arith) ∙ ap (λ v. get_or v (k - 96) 0) z ∙ get_or-replicate {A = ℕ} 32 (k - 96) 0 0 (omega arith)
      ∙ sym (leaf_taken-below w (128 + (96 + (k - 96))) b (omega arith) (omega arith))))
      (λ n. part_other 96 32 below y long cleared k (inr (omega arith)) ∙ below_at k ∙ sym (leaf_taken_other w (128 + k) (inr (omega arith)) (inr (omega arith))))))
