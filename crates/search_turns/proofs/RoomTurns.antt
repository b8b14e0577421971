-- The room of a turn between two values, and what it leaves.
use mathlib.Core.Path.{◌≡◌, refl, sym, ap, ap₂, subst, ◌∙◌}
use mathlib.Core.Bool.{Bool, true, false}
use mathlib.Core.List.{List, ◌++◌}
use mathlib.Core.Logic.{◌⊎◌, inl, inr, ⊎_elim}
use Prim.Native.Nat.{ℕ, ◌+◌, ◌-◌, ◌*◌, ◌≤◌, ◌<◌}
use native.Mathlib.Omega.{arith}
use lib.Dec.{T}
use lib.ListN.{get_or, length, take, drop, length-drop, length-append, get_or-append}
use lib.Seq.{ext_get_or, get_or-take, get_or-drop, get_or-append-add, length-take-le}
use Rattle.mask.proofs.Logic.{by_lt}
use Rattle.solver_arrays.specs.Words.{list_in, reason_in, why_in, leaf_in}
use Rattle.solver_arrays.proofs.WordLaws.{length-list_in, get_d_list_in, length-why_in, get_d_why_in, length-leaf_in, get_d_leaf_in}
use Rattle.search_words.specs.TurnRoom.{zeroed, handed_down, leaf_taken}
use Rattle.search_words.proofs.RoomLaws.{length-zeroed, zeroed_at, zeroed_other, length-leaf_taken, leaf_taken_at, leaf_taken-below, leaf_taken_other}
use Rattle.search_words.proofs.ChildLaws.{length-handed_down, handed_down_other}
use Rattle.search_steps.specs.TurnReply.{room_of, Blank, Leaves}

-- The words y between two values, x being those after the rules: domains and reasons as in x, a leaf or none; the words behind the leaf are zero but
-- for domains and reasons of the turn below; those from t on as in x.
pub record Mid (n t : ℕ) (x y : List ℕ) : Type 0 where
  pub size : length y ≡ length x
  pub own : (k : ℕ) → k < 96 → get_or y k 0 ≡ get_or x k 0
  pub behind : (k : ℕ) → 96 + n ≤ k → k < t → (k < 128) ⊎ (224 ≤ k) → get_or y k 0 ≡ 0
  pub small : (j : ℕ) → j < n → get_or y (96 + j) 0 < 16
  pub beyond : (k : ℕ) → t ≤ k → get_or y k 0 ≡ get_or x k 0

-- No leaf stands.
abbrev pub Leafless : List ℕ → Type 0
Leafless y = (k : ℕ) → 96 ≤ k → k < 128 → get_or y k 0 ≡ 0

-- Before the first value.
pub mid_start : (n t : ℕ) (x : List ℕ) → 96 + n ≤ t → Blank t x → Mid n t x x
mid_start n t x b z = record {
  size = refl;
  own = λ k h. refl;
  behind = λ k h l _. z k (omega arith) l;
  small = λ j h. let e = z (96 + j) (omega arith) (omega arith) in omega arith;
  beyond = λ k h. refl;
}

module _ (n t : ℕ) (x y : List ℕ) (m : Mid n t x y) (b : n ≤ 32) where
  pub mid_list : list_in n y ≡ list_in n x
  mid_list =
      let e = length-list_in n y in
      ext_get_or 0 (list_in n y) (list_in n x) (e ∙ sym (length-list_in n x)) λ j h.
      get_d_list_in n y j (omega arith) ∙ m.own j (omega arith) ∙ sym (get_d_list_in n x j (omega arith))

  pub mid_why : why_in n y ≡ why_in n x
  unfolding reason_in
  mid_why =
      let e = length-why_in n y in
      ext_get_or 0 (why_in n y) (why_in n x) (e ∙ sym (length-why_in n x)) λ j h.
      get_d_why_in n y j (omega arith) ∙ ap₂ (λ a b. a + 65536 * b) (m.own (32 + 2 * j) (omega arith)) (m.own (33 + 2 * j) (omega arith)) ∙ sym (get_d_why_in n x j (omega arith))

  -- The leaf cleared.
  module _ (u : List ℕ) (long : 128 ≤ length x) (t≥ : 128 ≤ t) (e : u ≡ zeroed 96 128 y) where
    wiped_at : (k : ℕ) → 96 ≤ k → k < 128 → get_or u k 0 ≡ 0
    wiped_at k p q = let s = m.size in ap (λ v. get_or v k 0) e ∙ zeroed_at 96 128 y k p q (omega arith)

    wiped_other : (k : ℕ) → (k < 96) ⊎ (128 ≤ k) → get_or u k 0 ≡ get_or y k 0
    wiped_other k o = ap (λ v. get_or v k 0) e ∙ zeroed_other 96 128 y k o

    pub mid_wiped : Mid n t x u
    mid_wiped = record {
      size = ap length e ∙ length-zeroed 96 128 y ∙ m.size;
      own = λ k h. wiped_other k (inl h) ∙ m.own k h;
      behind = λ k h l o. ⊎_elim (λ p. wiped_at k (omega arith) p) (λ p. wiped_other k (inr (omega arith)) ∙ m.behind k h l (inr p)) o;
      small = λ j h. let z = wiped_at (96 + j) (omega arith) (omega arith) in omega arith;
      beyond = λ k h. wiped_other k (inr (omega arith)) ∙ m.beyond k h;
    }

    pub wiped_leafless : Leafless u
    wiped_leafless = wiped_at

  -- What the turn leaves, the words of the turn below cleared: w are its words at entry.
  module _ (w w' : List ℕ) (long : length x ≡ length w) (far : (k : ℕ) → t ≤ k → get_or x k 0 ≡ get_or w k 0) (fits : t ≤ length w) (deep : 256 ≤ t) (e : w' ≡ zeroed 128 224 y) where
    left_at : (k : ℕ) → 128 ≤ k → k < 224 → get_or w' k 0 ≡ 0
    left_at k p q = let s = m.size in ap (λ v. get_or v k 0) e ∙ zeroed_at 128 224 y k p q (omega arith)

    left_other : (k : ℕ) → (k < 128) ⊎ (224 ≤ k) → get_or w' k 0 ≡ get_or y k 0
    left_other k o = ap (λ v. get_or v k 0) e ∙ zeroed_other 128 224 y k o

    left_zero : (k : ℕ) → ((k < 128) ⊎ (224 ≤ k) → get_or y k 0 ≡ 0) → get_or w' k 0 ≡ 0
    left_zero k z = by_lt k 128 (λ p. left_other k (inl p) ∙ z (inl p)) (λ p. by_lt k 224 (λ q. left_at k p q) (λ q. left_other k (inr q) ∙ z (inr q)))

    left-size : length w' ≡ length w
    left-size = ap length e ∙ length-zeroed 128 224 y ∙ m.size ∙ long

    left_beyond : (k : ℕ) → t ≤ k → get_or w' k 0 ≡ get_or w k 0
    left_beyond k h = left_other k (inr (omega arith)) ∙ m.beyond k h ∙ far k h

    -- The list.
    pub left-list : list_in n w' ≡ list_in n x
    left-list =
        let l = length-list_in n w' in
        ext_get_or 0 (list_in n w') (list_in n x) (l ∙ sym (length-list_in n x)) λ j h.
        get_d_list_in n w' j (omega arith) ∙ left_other j (inl (omega arith)) ∙ m.own j (omega arith) ∙ sym (get_d_list_in n x j (omega arith))

    -- Won with the leaf that stands there.
    pub leaves-leaf : Leaves n t true w w'
    leaves-leaf = record {
      size = left-size;
      behind = λ k h l. left_zero k (m.behind k h l);
      small = λ j h. subst (λ v. v < 16) (sym (left_other (96 + j) (inl (omega arith)))) (m.small j h);
      lost = λ f. absurd (subst (λ b. T b) f tt);
      beyond = left_beyond;
    }

    pub leaf-handed : leaf_in n w' ≡ leaf_in n y
    leaf-handed =
        let l = length-leaf_in n w' in
        ext_get_or 0 (leaf_in n w') (leaf_in n y) (l ∙ sym (length-leaf_in n y)) λ j h.
        get_d_leaf_in n w' j (omega arith) ∙ left_other (96 + j) (inl (omega arith)) ∙ sym (get_d_leaf_in n y j (omega arith))

    -- Lost where no leaf stands.
    pub leaves_none : Leafless y → Leaves n t false w w'
    leaves_none z =
        let zeros : (k : ℕ) → 96 ≤ k → k < t → get_or w' k 0 ≡ 0 =
        λ k h l. left_zero k (⊎_elim (λ p. z k h p) (λ p. m.behind k (omega arith) l (inr p))) in
        record {
          size = left-size;
          behind = λ k h l. zeros k (omega arith) l;
          small = λ j h. let z = zeros (96 + j) (omega arith) (omega arith) in omega arith;
          lost = λ _. zeros;
          beyond = left_beyond;
        }

-- The turn below: h are the words with value a of d handed down, of which it is lent those from 128 on; it leaves e there, and r is the whole.
module _ (n d a t : ℕ) (x y h e r : List ℕ) (m : Mid n t x y) (won : Bool) (b : n ≤ 32) (lt : d < n) (room : t ≡ room_of n d) (fits : t ≤ length x)
    (down : h ≡ handed_down d a y) (left : Leaves n (room_of n (d + 1)) won (drop 128 h) e) (back : r ≡ take 128 h ++ e) where
  long : length h ≡ length x
  long = ap length down ∙ length-handed_down d a y ∙ m.size

  first-words : length (take 128 h) ≡ 128
  first-words = let l = long in length-take-le 128 h (omega arith)

  pub size_back : length r ≡ length x
  size_back = let l = long in let f = first-words in let g = left.size in ap length back ∙ length-append (take 128 h) e ∙ omega (arith, length-drop 128 h)

  low : (k : ℕ) → k < 128 → get_or r k 0 ≡ get_or y k 0
  low k u = let f = first-words in
      ap (λ v. get_or v k 0) back ∙ get_or-append (take 128 h) e 0 k (omega arith) ∙ get_or-take 128 h k 0 u ∙ ap (λ v. get_or v k 0) down ∙ handed_down_other d a y k (inl u)

  high : (j : ℕ) → get_or r (128 + j) 0 ≡ get_or e j 0
  high j = ap (λ v. get_or v (128 + j) 0) back ∙ ap (λ i. get_or (take 128 h ++ e) (i + j) 0) (sym first-words) ∙ get_or-append-add (take 128 h) e j 0

  leaf-word : (j : ℕ) → get_or r (224 + j) 0 ≡ get_or e (96 + j) 0
  leaf-word j = let s : 224 + j ≡ 128 + (96 + j) = omega arith in ap (λ i. get_or r i 0) s ∙ high (96 + j)

  far : (k : ℕ) → t ≤ k → get_or r k 0 ≡ get_or x k 0
  far k u =
      let s : k ≡ 128 + (k - 128) = omega arith in
      ap (λ i. get_or r i 0) s ∙ high (k - 128) ∙ left.beyond (k - 128) (omega arith) ∙ get_or-drop 128 h (k - 128) 0 ∙ ap (λ i. get_or h i 0) (sym s)
      ∙ ap (λ v. get_or v k 0) down ∙ handed_down_other d a y k (inr (omega arith)) ∙ m.beyond k u

  -- It lost: the room is as before the value.
  pub mid_lost : won ≡ false → Mid n t x r
  mid_lost f = record {
    size = size_back;
    own = λ k u. low k (omega arith) ∙ m.own k u;
    behind = λ k u v o. ⊎_elim
        (λ q. low k q ∙ m.behind k u v (inl q))
        (λ q. let s : k ≡ 128 + (k - 128) = omega arith in ap (λ i. get_or r i 0) s ∙ high (k - 128) ∙ left.lost f (k - 128) (omega arith) (omega arith)) o;
    small = λ j u. subst (λ v. v < 16) (sym (low (96 + j) (omega arith))) (m.small j u);
    beyond = far;
  }

  pub leafless_lost : Leafless y → Leafless r
  leafless_lost z k u v = low k v ∙ z k u v

  -- It won, and its leaf is taken up.
  pub mid_won : (r' : List ℕ) → r' ≡ leaf_taken r → Mid n t x r'
  mid_won r' q =
      let s = size_back in
      record {
        size = ap length q ∙ length-leaf_taken r ∙ s;
        own = λ k u. ap (λ v. get_or v k 0) q ∙ leaf_taken_other r k (inl u) (inl (omega arith)) ∙ low k (omega arith) ∙ m.own k u;
        behind = λ k u v o. ap (λ v. get_or v k 0) q ∙ ⊎_elim (λ p. in_leaf k u v p) (λ p. in_rest k u v p) o;
        small = λ j u. subst (λ v. v < 16) (sym (ap (λ v. get_or v (96 + j) 0) q ∙ leaf_taken_at r j (omega arith) (omega arith) ∙ leaf-word j)) (left.small j u);
        beyond = λ k u. ap (λ v. get_or v k 0) q ∙ leaf_taken_other r k (inr (omega arith)) (inr (omega arith)) ∙ far k u;
      }
    where
      from : (k : ℕ) → 224 + n ≤ k → k < t → get_or r k 0 ≡ 0
      from k u v = let s : k ≡ 128 + (k - 128) = omega arith in ap (λ i. get_or r i 0) s ∙ high (k - 128) ∙ left.behind (k - 128) (omega arith) (omega arith)

      in_leaf : (k : ℕ) → 96 + n ≤ k → k < t → k < 128 → get_or (leaf_taken r) k 0 ≡ 0
      in_leaf k u v p =
          let s = size_back in
          let i : k ≡ 96 + (k - 96) = omega arith in
          ap (λ i. get_or (leaf_taken r) i 0) i ∙ leaf_taken_at r (k - 96) (omega arith) (omega arith) ∙ from (224 + (k - 96)) (omega arith) (omega arith)

      in_rest : (k : ℕ) → 96 + n ≤ k → k < t → 224 ≤ k → get_or (leaf_taken r) k 0 ≡ 0
      in_rest k u v p =
          let s = size_back in
          by_lt k 256 (λ g. leaf_taken-below r k (omega arith) p g) (λ g. leaf_taken_other r k (inr (omega arith)) (inr g) ∙ from k (omega arith) v)

  pub leaf_up : (r' : List ℕ) → r' ≡ leaf_taken r → leaf_in n r' ≡ leaf_in n e
  leaf_up r' q =
      let s = size_back in
      let l = length-leaf_in n r' in
      ext_get_or 0 (leaf_in n r') (leaf_in n e) (l ∙ sym (length-leaf_in n e)) λ j u.
      get_d_leaf_in n r' j (omega arith) ∙ ap (λ v. get_or v (96 + j) 0) q ∙ leaf_taken_at r j (omega arith) (omega arith) ∙ leaf-word j ∙ sym (get_d_leaf_in n e j (omega arith))
