-- The words of one pair that is given a constraint, in each array, and that all others are as they were.
use Prim.Native.Nat.{ℕ, ◌+◌, ◌*◌, ◌^◌, ◌≤◌, ◌<◌}
use mathlib.Core.Path.{◌≡◌, refl, sym, ap, ◌∙◌}
use mathlib.Core.Bool.{Bool, ◌&&◌, ◌||◌, or_assoc, or_comm}
use mathlib.Core.List.{List}
use lib.Bits.{bit_or}
use lib.Dec.{eqb}
use lib.ListN.{length, get_or, set, length-set}
use lib.Seq.{get_or-set_same, get_or-set_other}
use native.Mathlib.Omega.{arith}
use borrow.Author.Tests.{eq-eqb, ne_eqb}
use Rattle.mask.specs.Mask.{bit}
use Rattle.mask.proofs.Logic.{by_eq}
use Rattle.mask.proofs.Bits.{bit-bit_or, bit_single}
use Rattle.mask.proofs.Words.{set_most}
use Rattle.file_decoder.specs.Tables.{put_to, added, linked, numbered, blocks}
use Rattle.file_decoder.proofs.Runs.{length-put, put_in, put-before}

-- ---- rows

-- The two blocks of constraint t, and the words before them.
module _ (l : List ℕ) (t : ℕ) (row column : ℕ → ℕ) where
  pub length-blocks : length (blocks l t row column) ≡ length l
  unfolding blocks
  length-blocks = length-put (put_to l (32 * t + 16) row 16) (32 * t + 32) column 16 ∙ length-put l (32 * t + 16) row 16

  pub blocks-before : (x : ℕ) → x < 32 * t + 16 → get_or (blocks l t row column) x 0 ≡ get_or l x 0
  unfolding blocks
  blocks-before x h = put-before (put_to l (32 * t + 16) row 16) (32 * t + 32) column 16 x (omega arith) ∙ put-before l (32 * t + 16) row 16 x h

  pub blocks_row : (a : ℕ) → 32 * t + 48 ≤ length l → a < 16 → get_or (blocks l t row column) (32 * t + 16 + a) 0 ≡ row a
  unfolding blocks
  blocks_row a h g =
      put-before (put_to l (32 * t + 16) row 16) (32 * t + 32) column 16 (32 * t + 16 + a) (omega arith) ∙ put_in l (32 * t + 16) row 16 a (omega arith) g

  pub blocks_column : (b : ℕ) → 32 * t + 48 ≤ length l → b < 16 → get_or (blocks l t row column) (32 * t + 32 + b) 0 ≡ column b
  unfolding blocks
  blocks_column b h g = put_in (put_to l (32 * t + 16) row 16) (32 * t + 32) column 16 b (omega (arith, length-put l (32 * t + 16) row 16)) g

-- ---- index

-- The two words of a pair that is given constraint t, and the others.
module _ (l : List ℕ) (i j t : ℕ) where
  pub length-numbered : length (numbered l i j t) ≡ length l
  unfolding numbered
  length-numbered = length-set (set l (32 * i + j) (2 * t + 1)) (32 * j + i) (2 * t + 2) ∙ length-set l (32 * i + j) (2 * t + 1)

  pub numbered_other : (x : ℕ) → ¬ (x ≡ 32 * i + j) → ¬ (x ≡ 32 * j + i) → get_or (numbered l i j t) x 0 ≡ get_or l x 0
  unfolding numbered
  numbered_other x h g =
      get_or-set_other (set l (32 * i + j) (2 * t + 1)) (32 * j + i) x (2 * t + 2) 0 g ∙ get_or-set_other l (32 * i + j) x (2 * t + 1) 0 h

  pub numbered_back : 32 * j + i < length l → get_or (numbered l i j t) (32 * j + i) 0 ≡ 2 * t + 2
  unfolding numbered
  numbered_back h =
      get_or-set_same (set l (32 * i + j) (2 * t + 1)) (32 * j + i) (2 * t + 2) 0 (omega (arith, length-set l (32 * i + j) (2 * t + 1)))

  pub numbered_on : i < j → j < 32 → 32 * i + j < length l → get_or (numbered l i j t) (32 * i + j) 0 ≡ 2 * t + 1
  unfolding numbered
  numbered_on g s h =
      get_or-set_other (set l (32 * i + j) (2 * t + 1)) (32 * j + i) (32 * i + j) (2 * t + 2) 0 (λ e. omega arith)
      ∙ get_or-set_same l (32 * i + j) (2 * t + 1) 0 h

  pub numbered_most : (w x : ℕ) → 2 * t + 2 ≤ w → get_or l x 0 ≤ w → get_or (numbered l i j t) x 0 ≤ w
  unfolding numbered
  numbered_most w x h g = set_most (set l (32 * i + j) (2 * t + 1)) (32 * j + i) x (2 * t + 2) w h (set_most l (32 * i + j) x (2 * t + 1) w (omega arith) g)

-- ---- neighbours

length-added : (l : List ℕ) (i j : ℕ) → length (added l i j) ≡ length l
unfolding added
length-added l i j = length-set l i (bit_or (get_or l i 0) (2 ^ j))

added_other : (l : List ℕ) (i j u : ℕ) → ¬ (u ≡ i) → get_or (added l i j) u 0 ≡ get_or l u 0
unfolding added
added_other l i j u h = get_or-set_other l i u (bit_or (get_or l i 0) (2 ^ j)) 0 h

-- The neighbours of u once j is made one of i.
bit_added : (l : List ℕ) (i j u v : ℕ) → i < length l → bit (get_or (added l i j) u 0) v ≡ (eqb u i && eqb v j) || bit (get_or l u 0) v
unfolding added
bit_added l i j u v h =
    by_eq u i
    (λ e.
    rw (e, eq-eqb i i refl, get_or-set_same l i (bit_or (get_or l i 0) (2 ^ j)) 0 h, bit-bit_or, bit_single)
    (or_comm (bit (get_or l i 0) v) (eqb v j)))
    (λ d. rw (ne_eqb u i d, get_or-set_other l i u (bit_or (get_or l i 0) (2 ^ j)) 0 d))

-- Disjunctions of three, in another order.
or_turned : (a b c : Bool) → a || (b || c) ≡ (b || a) || c
or_turned a b c = sym (or_assoc a b c) ∙ ap (λ x. x || c) (or_comm a b)

-- i and j made neighbours of each other.
module _ (l : List ℕ) (i j : ℕ) where
  pub length-linked : length (linked l i j) ≡ length l
  unfolding linked
  length-linked = length-added (added l i j) j i ∙ length-added l i j

  pub linked_other : (u : ℕ) → ¬ (u ≡ i) → ¬ (u ≡ j) → get_or (linked l i j) u 0 ≡ get_or l u 0
  unfolding linked
  linked_other u h g = added_other (added l i j) j i u g ∙ added_other l i j u h

  pub bit_linked : (u v : ℕ) → i < length l → j < length l
      → bit (get_or (linked l i j) u 0) v ≡ (eqb u i && eqb v j || eqb u j && eqb v i) || bit (get_or l u 0) v
  unfolding linked
  bit_linked u v h g =
      bit_added (added l i j) j i u v (omega (arith, length-added l i j))
      ∙ ap (λ r. (eqb u j && eqb v i) || r) (bit_added l i j u v h)
      ∙ or_turned (eqb u j && eqb v i) (eqb u i && eqb v j) (bit (get_or l u 0) v)
