-- The position's list, word by word, and the words that hold it.
use mathlib.Core.Path.{◌≡◌, refl, sym, ap, ◌∙◌}
use mathlib.Core.List.{List, [], ◌∷◌}
use Prim.Native.Nat.{ℕ, zero, suc, ◌+◌, ◌-◌, ◌^◌, ◌<◌, ◌≤◌}
use native.Mathlib.Omega.{arith}
use native.Mathlib.Numerals.{add-one}
use lib.Dec.{T}
use lib.ListN.{get_or, length, take, drop, set, length-take}
use lib.Seq.{length-take-le, get_or-take, get_or-drop, take_all, take-suc, take-suc-set}
use borrow.Author.Tests.{lt-ltb, le-ltb}
use Rattle.mask.proofs.Logic.{by_lt}
use Rattle.game.specs.Problem.{Problem}
use Rattle.game.specs.Lists.{list_of}
use Rattle.game.specs.Position.{narrowed, position}
use Rattle.theory.proofs.Lists.{length-narrowed, narrowed-played, narrowed_unplayed}
use Rattle.position.specs.declared.Position.{Position}
use Rattle.position.specs.Position.{plays_of, fits_in, place_mask, Written}
use Rattle.position.proofs.Fitting.{fits_plays, get_d_plays, length_plays}

-- The first n words as a list.
pub list_of-take : (n : ℕ) (w : List ℕ) → n ≤ length w → list_of n (λ i. get_or w i 0) ≡ take n w
unfolding list_of
list_of-take zero w h = refl
list_of-take (suc n) [] h = absurd (omega arith)
list_of-take (suc n) (x ∷ w) h = ap (λ (l : List ℕ). x ∷ l) (list_of-take n w (omega arith))

-- A problem over the first n masks says that there are n.
masks_long : (P : Problem) (n : ℕ) (masks : List ℕ) → P.n ≡ n → P.domain ≡ take n masks → n ≤ length masks
masks_long P n masks e f = omega (arith, P.sized, ap length f, length-take n masks)

module _ (p : Position) (n : ℕ) (masks : List ℕ) where
  -- The position's list.
  abbrev pub list : List ℕ
  list = narrowed (take n masks) (plays_of p)

  module _ (t : T (fits_in p n masks)) (small : n ≤ 32) (long : length p.values ≡ 32) (full : n ≤ length masks) where
    length-list : length list ≡ n
    length-list = length-narrowed (take n masks) (plays_of p) ∙ length-take-le n masks full

    -- The list at place i.
    list_at : (i : ℕ) → i < n → place_mask p.plays i (get_or masks i 0) (get_or p.values i 0) ≡ get_or list i 0
    unfolding place_mask
    list_at i h =
        let e = length_plays p n masks t small long in
        let b = fits_plays p n masks t in
        let s = length-take-le n masks full in
        by_lt i p.plays
        (λ k. rw (lt-ltb i p.plays k) (ap (λ (v : ℕ). 2 ^ v) (sym (get_d_plays p i k)) ∙ sym (narrowed-played (take n masks) (plays_of p) i (omega arith) (omega arith))))
        (λ k. rw (le-ltb i p.plays k) (sym (narrowed_unplayed (take n masks) (plays_of p) i (omega arith) ∙ get_or-take n masks i 0 h)))

    -- One word more of the list.
    pub list-next : (w : List ℕ) (i r : ℕ) → i < n → i < length w → r ≡ place_mask p.plays i (get_or masks i 0) (get_or p.values i 0)
        → take i w ≡ take i list → take (i + 1) (set w i r) ≡ take (i + 1) list
    list-next w i r h k e d =
        let s = length-list in
        rw (add-one, e ∙ list_at i h, take-suc-set w i (get_or list i 0) k, d) (sym (take-suc list i 0 (omega arith)))

  -- The whole list stands in the words, and the others stay.
  pub written_all : (w v : List ℕ) → (n ≤ length masks → take n v ≡ take n list) → drop n v ≡ drop n w → Written p n masks w v
  unfolding position
  written_all w v a b = record {
    list = λ P e f. let h = masks_long P n masks e f in
        rw f (a h ∙ take_all n list (let s = length-narrowed (take n masks) (plays_of p) ∙ length-take-le n masks h in omega arith));
    others = b;
  }

-- What the search takes from it: the list of the first n words, and every other word.
module _ (p : Position) (n : ℕ) (masks w v : List ℕ) (r : Written p n masks w v) where
  pub written_list : (P : Problem) → P.n ≡ n → P.domain ≡ take n masks → n ≤ length v → list_of n (λ i. get_or v i 0) ≡ position P (plays_of p)
  written_list P e f h = list_of-take n v h ∙ r.list P e f

  pub written_other : (k : ℕ) → n ≤ k → get_or v k 0 ≡ get_or w k 0
  written_other k h =
      let e : n + (k - n) ≡ k = omega arith in
      rw e at (sym (get_or-drop n v (k - n) 0) ∙ ap (λ (l : List ℕ). get_or l (k - n) 0) r.others ∙ get_or-drop n w (k - n) 0)
