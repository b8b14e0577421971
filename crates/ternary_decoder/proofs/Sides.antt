-- The arrays when a variable h is joined with three lower ones, i < j < k, by constraints of the numbers t, t + 1 and t + 2: the words of the pairs with h, and
-- that all others are as they were.
use Prim.Native.Nat.{ℕ, ◌+◌, ◌*◌, ◌≤◌, ◌<◌}
use mathlib.Core.Path.{◌≡◌, refl, ap, ◌∙◌}
use mathlib.Core.Bool.{Bool, true, false, ◌&&◌, ◌||◌, or-false, and-true}
use mathlib.Core.List.{List}
use lib.Dec.{eqb}
use lib.ListN.{length, get_or}
use native.Mathlib.Omega.{arith}
use borrow.Author.Tests.{eq-eqb, ne_eqb}
use Rattle.mask.specs.Mask.{bit}
use Rattle.file_decoder.specs.Tables.{linked, numbered, blocks}
use Rattle.ternary_decoder.specs.Tables.{near_added, index_added, rows_added}
use Rattle.file_decoder.proofs.Pairs.{length-blocks, blocks-before, blocks_row, blocks_column, length-linked, linked_other, bit_linked}
use Rattle.file_decoder.proofs.Pairs.{length-numbered, numbered_other, numbered_back, numbered_on, numbered_most}

-- u is one of the three; the word x of the index is none of the pair of h and y.
abbrev pub one_of : ℕ → ℕ → ℕ → ℕ → Bool
one_of i j k u = eqb u i || (eqb u j || eqb u k)

abbrev pub Away : ℕ → ℕ → ℕ → Type 0
Away h x y = ¬ (x ≡ 32 * y + h) × ¬ (x ≡ 32 * h + y)

-- ---- neighbours

-- h joined with one lower variable x: the bits of others, of u towards h, and of h.
module _ (l : List ℕ) (x h : ℕ) (low : x < h) (size : h < length l) where
  side_old : (u v : ℕ) → ¬ (u ≡ h) → ¬ (v ≡ h) → bit (get_or (linked l x h) u 0) v ≡ bit (get_or l u 0) v
  side_old u v d e = bit_linked l x h u v (omega arith) size ∙ rw (ne_eqb u h d, ne_eqb v h e) (neither (eqb u x) (bit (get_or l u 0) v))
    where
      neither : (a b : Bool) → ((a && false) || (false && (eqb v x))) || b ≡ b
      neither true b = refl
      neither false b = refl

  side_up : (u : ℕ) → ¬ (u ≡ h) → bit (get_or (linked l x h) u 0) h ≡ eqb u x || bit (get_or l u 0) h
  side_up u d =
      bit_linked l x h u h (omega arith) size
      ∙ rw (ne_eqb u h d, eq-eqb h h refl, and-true (eqb u x), or-false (eqb u x)) refl

  side_down : (v : ℕ) → bit (get_or (linked l x h) h 0) v ≡ eqb v x || bit (get_or l h 0) v
  side_down v =
      bit_linked l x h h v (omega arith) size
      ∙ rw (ne_eqb h x (λ e. omega arith), eq-eqb h h refl) refl

-- Tests on one after another, without the first word's bit.
three_ways : (a b c : Bool) → c || (b || (a || false)) ≡ a || (b || c)
three_ways true true true = refl
three_ways true true false = refl
three_ways true false true = refl
three_ways true false false = refl
three_ways false true true = refl
three_ways false true false = refl
three_ways false false true = refl
three_ways false false false = refl

module _ (i j k h : ℕ) (ij : i < j) (jk : j < k) (kh : k < h) (most : h < 32) where
  module _ (l : List ℕ) (long : length l ≡ 32) where
    abbrev near_1 : List ℕ
    near_1 = linked l i h

    abbrev near_2 : List ℕ
    near_2 = linked near_1 j h

    long_1 : length near_1 ≡ 32
    long_1 = length-linked l i h ∙ long

    long_2 : length near_2 ≡ 32
    long_2 = length-linked near_1 j h ∙ long_1

    pub long_near : length (near_added l i j k h) ≡ 32
    long_near = length-linked near_2 k h ∙ long_2

    pub near_old : (u v : ℕ) → ¬ (u ≡ h) → ¬ (v ≡ h) → bit (get_or (near_added l i j k h) u 0) v ≡ bit (get_or l u 0) v
    near_old u v d e =
        side_old near_2 k h kh (omega (arith, long_2)) u v d e
        ∙ side_old near_1 j h (omega arith) (omega (arith, long_1)) u v d e
        ∙ side_old l i h (omega arith) (omega (arith, long)) u v d e

    -- h, which had no neighbours, and those that have it for one.
    pub near_up : (u : ℕ) → ¬ (u ≡ h) → bit (get_or l u 0) h ≡ false → bit (get_or (near_added l i j k h) u 0) h ≡ one_of i j k u
    near_up u d z =
        side_up near_2 k h kh (omega (arith, long_2)) u d
        ∙ ap (λ (b : Bool). eqb u k || b) (side_up near_1 j h (omega arith) (omega (arith, long_1)) u d)
        ∙ ap (λ (b : Bool). eqb u k || (eqb u j || b)) (side_up l i h (omega arith) (omega (arith, long)) u d)
        ∙ ap (λ (b : Bool). eqb u k || (eqb u j || (eqb u i || b))) z
        ∙ three_ways (eqb u i) (eqb u j) (eqb u k)

    pub near_down : (v : ℕ) → bit (get_or l h 0) v ≡ false → bit (get_or (near_added l i j k h) h 0) v ≡ one_of i j k v
    near_down v z =
        side_down near_2 k h kh (omega (arith, long_2)) v
        ∙ ap (λ (b : Bool). eqb v k || b) (side_down near_1 j h (omega arith) (omega (arith, long_1)) v)
        ∙ ap (λ (b : Bool). eqb v k || (eqb v j || b)) (side_down l i h (omega arith) (omega (arith, long)) v)
        ∙ ap (λ (b : Bool). eqb v k || (eqb v j || (eqb v i || b))) z
        ∙ three_ways (eqb v i) (eqb v j) (eqb v k)

    pub near_above : (u : ℕ) → h < u → get_or (near_added l i j k h) u 0 ≡ get_or l u 0
    near_above u g =
        linked_other near_2 k h u (λ e. omega arith) (λ e. omega arith)
        ∙ linked_other near_1 j h u (λ e. omega arith) (λ e. omega arith)
        ∙ linked_other l i h u (λ e. omega arith) (λ e. omega arith)

  -- ---- index

  module _ (l : List ℕ) (t : ℕ) (long : length l ≡ 1024) where
    abbrev index_1 : List ℕ
    index_1 = numbered l i h t

    abbrev index_2 : List ℕ
    index_2 = numbered index_1 j h (t + 1)

    length_1 : length index_1 ≡ 1024
    length_1 = length-numbered l i h t ∙ long

    length_2 : length index_2 ≡ 1024
    length_2 = length-numbered index_1 j h (t + 1) ∙ length_1

    pub long_index : length (index_added l i j k h t) ≡ 1024
    long_index = length-numbered index_2 k h (t + 2) ∙ length_2

    pub index_other : (x : ℕ) → Away h x i → Away h x j → Away h x k → get_or (index_added l i j k h t) x 0 ≡ get_or l x 0
    index_other x a b c =
        numbered_other index_2 k h (t + 2) x c.0 c.1 ∙ numbered_other index_1 j h (t + 1) x b.0 b.1 ∙ numbered_other l i h t x a.0 a.1

    pub index_most : (w x : ℕ) → 2 * (t + 3) ≤ w → get_or l x 0 ≤ w → get_or (index_added l i j k h t) x 0 ≤ w
    index_most w x g s =
        numbered_most index_2 k h (t + 2) w x (omega arith)
        (numbered_most index_1 j h (t + 1) w x (omega arith)
        (numbered_most l i h t w x (omega arith) s))

    -- The pair of h and each of the three.
    pub on_one : get_or (index_added l i j k h t) (32 * i + h) 0 ≡ 2 * t + 1
    on_one =
        numbered_other index_2 k h (t + 2) (32 * i + h) (λ e. omega arith) (λ e. omega arith)
        ∙ numbered_other index_1 j h (t + 1) (32 * i + h) (λ e. omega arith) (λ e. omega arith)
        ∙ numbered_on l i h t (omega arith) most (omega (arith, long))

    pub back_one : get_or (index_added l i j k h t) (32 * h + i) 0 ≡ 2 * t + 2
    back_one =
        numbered_other index_2 k h (t + 2) (32 * h + i) (λ e. omega arith) (λ e. omega arith)
        ∙ numbered_other index_1 j h (t + 1) (32 * h + i) (λ e. omega arith) (λ e. omega arith)
        ∙ numbered_back l i h t (omega (arith, long))

    pub on_two : get_or (index_added l i j k h t) (32 * j + h) 0 ≡ 2 * (t + 1) + 1
    on_two =
        numbered_other index_2 k h (t + 2) (32 * j + h) (λ e. omega arith) (λ e. omega arith)
        ∙ numbered_on index_1 j h (t + 1) (omega arith) most (omega (arith, length_1))

    pub back_two : get_or (index_added l i j k h t) (32 * h + j) 0 ≡ 2 * (t + 1) + 2
    back_two =
        numbered_other index_2 k h (t + 2) (32 * h + j) (λ e. omega arith) (λ e. omega arith)
        ∙ numbered_back index_1 j h (t + 1) (omega (arith, length_1))

    pub on_three : get_or (index_added l i j k h t) (32 * k + h) 0 ≡ 2 * (t + 2) + 1
    on_three = numbered_on index_2 k h (t + 2) kh most (omega (arith, length_2))

    pub back_three : get_or (index_added l i j k h t) (32 * h + k) 0 ≡ 2 * (t + 2) + 2
    back_three = numbered_back index_2 k h (t + 2) (omega (arith, length_2))

-- ---- rows

-- The rows a block e of each kind: r e towards h, and s e back.
module _ (l : List ℕ) (t : ℕ) (r s : ℕ → ℕ → ℕ) (long : length l ≡ 15888) (most : t + 2 < 496) where
  abbrev rows_1 : List ℕ
  rows_1 = blocks l t (r 0) (s 0)

  abbrev rows_2 : List ℕ
  rows_2 = blocks rows_1 (t + 1) (r 1) (s 1)

  size_1 : length rows_1 ≡ 15888
  size_1 = length-blocks l t (r 0) (s 0) ∙ long

  size_2 : length rows_2 ≡ 15888
  size_2 = length-blocks rows_1 (t + 1) (r 1) (s 1) ∙ size_1

  pub long_rows : length (rows_added l t r s) ≡ 15888
  long_rows = length-blocks rows_2 (t + 2) (r 2) (s 2) ∙ size_2

  before_two : (x : ℕ) → x < 32 * (t + 1) + 16 → get_or (rows_added l t r s) x 0 ≡ get_or rows_1 x 0
  before_two x h = blocks-before rows_2 (t + 2) (r 2) (s 2) x (omega arith) ∙ blocks-before rows_1 (t + 1) (r 1) (s 1) x h

  pub rows-before : (x : ℕ) → x < 32 * t + 16 → get_or (rows_added l t r s) x 0 ≡ get_or l x 0
  rows-before x h = before_two x (omega arith) ∙ blocks-before l t (r 0) (s 0) x h

  pub rows_one : (a : ℕ) → a < 16 → get_or (rows_added l t r s) (32 * t + 16 + a) 0 ≡ r 0 a
  rows_one a h = before_two (32 * t + 16 + a) (omega arith) ∙ blocks_row l t (r 0) (s 0) a (omega (arith, long)) h

  pub columns_one : (a : ℕ) → a < 16 → get_or (rows_added l t r s) (32 * t + 32 + a) 0 ≡ s 0 a
  columns_one a h = before_two (32 * t + 32 + a) (omega arith) ∙ blocks_column l t (r 0) (s 0) a (omega (arith, long)) h

  pub rows_two : (a : ℕ) → a < 16 → get_or (rows_added l t r s) (32 * (t + 1) + 16 + a) 0 ≡ r 1 a
  rows_two a h =
      blocks-before rows_2 (t + 2) (r 2) (s 2) (32 * (t + 1) + 16 + a) (omega arith) ∙ blocks_row rows_1 (t + 1) (r 1) (s 1) a (omega (arith, size_1)) h

  pub columns_two : (a : ℕ) → a < 16 → get_or (rows_added l t r s) (32 * (t + 1) + 32 + a) 0 ≡ s 1 a
  columns_two a h =
      blocks-before rows_2 (t + 2) (r 2) (s 2) (32 * (t + 1) + 32 + a) (omega arith) ∙ blocks_column rows_1 (t + 1) (r 1) (s 1) a (omega (arith, size_1)) h

  pub rows_three : (a : ℕ) → a < 16 → get_or (rows_added l t r s) (32 * (t + 2) + 16 + a) 0 ≡ r 2 a
  rows_three a h = blocks_row rows_2 (t + 2) (r 2) (s 2) a (omega (arith, size_2)) h

  pub columns_three : (a : ℕ) → a < 16 → get_or (rows_added l t r s) (32 * (t + 2) + 32 + a) 0 ≡ s 2 a
  columns_three a h = blocks_column rows_2 (t + 2) (r 2) (s 2) a (omega (arith, size_2)) h
