-- The variables of a group as the code gathers them, and an array filled place by place.
use mathlib.Core.Path.{◌≡◌, sym, ap, ◌∙◌}
use mathlib.Core.Bool.{Bool, true, false}
use mathlib.Core.List.{List}
use Prim.Native.Nat.{ℕ, suc, ◌+◌, ◌^◌, ◌≤◌, ◌<◌}
use native.Mathlib.Numerals.{add-one}
use native.Mathlib.Omega.{arith}
use lib.Bits.{bit_or}
use lib.Dec.{T}
use lib.ListN.{get_or, length, set, length-set}
use lib.Seq.{ext_get_or, get_or-set_same, get_or-set_other}
use borrow.Author.Tests.{eq-eqb, ne_eqb}
use Rattle.mask.specs.Range.{count}
use Rattle.mask.specs.Mask.{bit, mask_of}
use Rattle.mask.proofs.Logic.{true_holds, by_eq}
use Rattle.mask.proofs.Range.{count-bound}
use Rattle.mask.proofs.Places.{count_in, count_out, own_place}
use Rattle.game.specs.Lists.{list_of, spread}
use Rattle.theory.proofs.Lists.{length-list_of, get_d_list_of}
use Rattle.theory.proofs.SpreadLaws.{listed_next}
use Rattle.group_labels.specs.declared.Groups.{Groups}
use Rattle.group_arrays.specs.declared.members.Members.{Members}
use Rattle.group_arrays.specs.Members.{grouped_in, at_place_in, old_in}

-- Those of the first i variables that are in the group have been counted.
module _ (r : Groups) (g i size : ℕ) (counted : size ≡ count i (grouped_in r g)) where
  -- They are no more than i.
  pub members_most : size ≤ i
  members_most = let b = count-bound i (grouped_in r g) in omega arith

  -- Variable i is in the group and becomes the next of them, or is not.
  pub member_in : (n : ℕ) (old : List ℕ) → i < n → n ≤ 32 → get_or r.group i 0 ≡ g → old ≡ spread (list_of size (at_place_in r n g))
      → (size + 1 ≡ count (i + 1) (grouped_in r g)) × (set old size i ≡ spread (list_of (size + 1) (at_place_in r n g)))
  unfolding grouped_in at_place_in
  member_in n old h m e q = (
    rw (add-one size, add-one i) (ap suc counted ∙ sym (count_in i (grouped_in r g) here)),
    let b = members_most in listed_next (at_place_in r n g) old size i (omega arith) q found,
  )
    where
      here : T (grouped_in r g i)
      here = true_holds (eq-eqb (get_or r.group i 0) g e)

      found : i ≡ at_place_in r n g size
      found = rw counted (sym (own_place n (grouped_in r g) i h here))

  pub member_out : ¬ (get_or r.group i 0 ≡ g) → size ≡ count (i + 1) (grouped_in r g)
  unfolding grouped_in
  member_out d = rw (add-one i) (counted ∙ sym (count_out i (grouped_in r g) (ne_eqb (get_or r.group i 0) g d)))

-- The next member of a renumbered mask: in it, and not.
module _ (m : Members) (mask t : ℕ) {j out : ℕ} {b : Bool} (old : j ≡ old_in m t) (found : b ≡ bit mask j) (before : out ≡ mask_of t (λ t. bit mask (old_in m t))) where
  pub mask_then : {one out' : ℕ} → b ≡ true → one ≡ 2 ^ t → out' ≡ bit_or out one → out' ≡ mask_of (t + 1) (λ t. bit mask (old_in m t))
  unfolding mask_of
  mask_then e q r = rw (add-one, ← old, sym found ∙ e, ← before) (r ∙ ap (bit_or out) q)

  pub mask_else : {out' : ℕ} → b ≡ false → out' ≡ out → out' ≡ mask_of (t + 1) (λ t. bit mask (old_in m t))
  unfolding mask_of
  mask_else e r = rw (add-one, ← old, sym found ∙ e) (r ∙ before)

-- The first x places of w, which has n, are filled by f: the next place is, and all of them are.
abbrev pub Filled : ℕ → (ℕ → ℕ) → ℕ → List ℕ → Type 0
Filled n f x w = (length w ≡ n) × ((k : ℕ) → k < x → get_or w k 0 ≡ f k)

module _ (n : ℕ) (f : ℕ → ℕ) (w : List ℕ) where
  pub filled_next : (x v : ℕ) → x < n → Filled n f x w → v ≡ f x → Filled n f (x + 1) (set w x v)
  filled_next x v h e q =
      (length-set w x v ∙ e.0, λ k l. by_eq k x (λ z. rw (z, get_or-set_same w x v 0 (omega (arith, e.0))) q) (λ z. rw (get_or-set_other w x k v 0 z) (e.1 k (omega arith))))

  pub filled_end : (x : ℕ) → n ≤ x → Filled n f x w → w ≡ list_of n f
  filled_end x h e =
      ext_get_or 0 w (list_of n f) (e.0 ∙ sym (length-list_of n f))
      λ k l. let b : k < n = omega (arith, e.0) in e.1 k (omega arith) ∙ sym (get_d_list_of n f k b)
