-- The arrays after the first k constraints, place by place: which words the constraints have, and that all others are as they were.
use Prim.Native.Nat.{ℕ, zero, suc, ◌+◌, ◌*◌, ◌≤◌, ◌<◌}
use mathlib.Core.Path.{◌≡◌, refl, sym, ap, ◌∙◌}
use mathlib.Core.Bool.{true, ◌||◌, or_assoc}
use mathlib.Core.List.{List}
use mathlib.Core.Logic.{⊎_elim}
use lib.ListN.{length, get_or}
use native.Mathlib.Omega.{arith}
use native.Mathlib.Nat.{eq-or-lt_of_le, le_of_suc-le-suc}
use Rattle.mask.specs.Range.{some}
use Rattle.mask.specs.Mask.{bit}
use Rattle.file_constraints.specs.Constraints.{constraint_one, constraint_two, constraint_row, joins, Constraints}
use Rattle.file_decoder.specs.Tables.{column_of, near_with, index_with, rows_with, near_to, index_to, rows_to}
use Rattle.file_decoder.proofs.Pairs.{length-blocks, blocks-before, blocks_row, blocks_column, length-linked, linked_other, bit_linked}
use Rattle.file_decoder.proofs.Pairs.{length-numbered, numbered_other, numbered_back, numbered_on, numbered_most}

-- ---- rows

module _ (l f : List ℕ) (q : ℕ) where
  -- The rows keep their length.
  pub length_rows : (k : ℕ) → length (rows_to l f q k) ≡ length l
  unfolding rows_to rows_with
  length_rows zero = refl
  length_rows (suc k) = length-blocks (rows_to l f q k) k (constraint_row f q k) (column_of f q k) ∙ length_rows k

  -- One more constraint leaves the words before its own.
  rows_more : (k x : ℕ) → x < 32 * k + 16 → get_or (rows_to l f q (suc k)) x 0 ≡ get_or (rows_to l f q k) x 0
  unfolding rows_to rows_with
  rows_more k x h = blocks-before (rows_to l f q k) k (constraint_row f q k) (column_of f q k) x h

  -- Block 0 is as it was.
  pub rows_first : (k x : ℕ) → x < 16 → get_or (rows_to l f q k) x 0 ≡ get_or l x 0
  unfolding rows_to
  rows_first zero x h = refl
  rows_first (suc k) x h = rows_more k x (omega arith) ∙ rows_first k x h

  -- The two blocks of constraint t.
  pub rows_at : (k t a : ℕ) → 32 * k + 16 ≤ length l → t < k → a < 16 → get_or (rows_to l f q k) (32 * t + 16 + a) 0 ≡ constraint_row f q t a
  unfolding rows_to rows_with
  rows_at zero t a h g s = absurd (omega arith)
  rows_at (suc k) t a h g s =
      ⊎_elim
      (λ (e : t ≡ k). rw e (blocks_row (rows_to l f q k) k (constraint_row f q k) (column_of f q k) a (omega (arith, length_rows k)) s))
      (λ (e : t < k). rows_more k (32 * t + 16 + a) (omega arith) ∙ rows_at k t a (omega arith) e s)
      (eq-or-lt_of_le (le_of_suc-le-suc g))

  pub columns_at : (k t b : ℕ) → 32 * k + 16 ≤ length l → t < k → b < 16 → get_or (rows_to l f q k) (32 * t + 32 + b) 0 ≡ column_of f q t b
  unfolding rows_to rows_with
  columns_at zero t b h g s = absurd (omega arith)
  columns_at (suc k) t b h g s =
      ⊎_elim
      (λ (e : t ≡ k). rw e (blocks_column (rows_to l f q k) k (constraint_row f q k) (column_of f q k) b (omega (arith, length_rows k)) s))
      (λ (e : t < k). rows_more k (32 * t + 32 + b) (omega arith) ∙ columns_at k t b (omega arith) e s)
      (eq-or-lt_of_le (le_of_suc-le-suc g))

-- ---- index

module _ (l f : List ℕ) (q m : ℕ) (size : length l ≡ 1024) (pairs : Constraints f q m) where
  abbrev one : ℕ → ℕ
  one t = constraint_one f q t

  abbrev two : ℕ → ℕ
  two t = constraint_two f q t

  pub length_index : (k : ℕ) → length (index_to l f q k) ≡ 1024
  unfolding index_to index_with
  length_index zero = size
  length_index (suc k) = length-numbered (index_to l f q k) (one k) (two k) k ∙ length_index k

  -- One more constraint leaves the words of other pairs.
  index_more : (k x : ℕ) → ¬ (x ≡ 32 * one k + two k) → ¬ (x ≡ 32 * two k + one k) → get_or (index_to l f q (suc k)) x 0 ≡ get_or (index_to l f q k) x 0
  unfolding index_to index_with
  index_more k x h g = numbered_other (index_to l f q k) (one k) (two k) k x h g

  -- The blocks of constraint t.
  pub index_on : (k t : ℕ) → k ≤ m → t < k → get_or (index_to l f q k) (32 * one t + two t) 0 ≡ 2 * t + 1
  unfolding index_to index_with
  index_on zero t h g = absurd (omega arith)
  index_on (suc k) t h g =
      let o = pairs.order k (omega arith) in
      let p = pairs.order t (omega arith) in
      ⊎_elim
      (λ (e : t ≡ k). rw e (numbered_on (index_to l f q k) (one k) (two k) k o.0 o.1 (omega (arith, length_index k))))
      (λ (s : t < k).
      let a = pairs.ascends t k s (omega arith) in
      index_more k (32 * one t + two t) (λ e. omega arith) (λ e. omega arith) ∙ index_on k t (omega arith) s)
      (eq-or-lt_of_le (le_of_suc-le-suc g))

  pub index_back : (k t : ℕ) → k ≤ m → t < k → get_or (index_to l f q k) (32 * two t + one t) 0 ≡ 2 * t + 2
  unfolding index_to index_with
  index_back zero t h g = absurd (omega arith)
  index_back (suc k) t h g =
      let o = pairs.order k (omega arith) in
      let p = pairs.order t (omega arith) in
      ⊎_elim
      (λ (e : t ≡ k). rw e (numbered_back (index_to l f q k) (one k) (two k) k (omega (arith, length_index k))))
      (λ (s : t < k).
      let a = pairs.ascends t k s (omega arith) in
      index_more k (32 * two t + one t) (λ e. omega arith) (λ e. omega arith) ∙ index_back k t (omega arith) s)
      (eq-or-lt_of_le (le_of_suc-le-suc g))

  -- A word of no constraint's pair.
  pub index_none : (k x : ℕ) → ((t : ℕ) → t < k → ¬ (x ≡ 32 * one t + two t)) → ((t : ℕ) → t < k → ¬ (x ≡ 32 * two t + one t)) →
      get_or (index_to l f q k) x 0 ≡ get_or l x 0
  unfolding index_to
  index_none zero x h g = refl
  index_none (suc k) x h g =
      index_more k x (h k (omega arith)) (g k (omega arith))
      ∙ index_none k x (λ t s. h t (omega arith)) (λ t s. g t (omega arith))

  -- No block is named beyond those of the first k.
  pub index_most : (k x : ℕ) → get_or l x 0 ≡ 0 → get_or (index_to l f q k) x 0 ≤ 2 * k
  unfolding index_to index_with
  index_most zero x h = omega arith
  index_most (suc k) x h = numbered_most (index_to l f q k) (one k) (two k) k (2 * suc k) x (omega arith) (let e = index_most k x h in omega arith)

-- ---- neighbours

module _ (l f : List ℕ) (q m : ℕ) (size : length l ≡ 32) (pairs : Constraints f q m) where
  pub length_near : (k : ℕ) → length (near_to l f q k) ≡ 32
  unfolding near_to near_with
  length_near zero = size
  length_near (suc k) = length-linked (near_to l f q k) (constraint_one f q k) (constraint_two f q k) ∙ length_near k

  -- The neighbours of u are those that some constraint joins with it, and those there were.
  pub near_joins : (k u v : ℕ) → k ≤ m → bit (get_or (near_to l f q k) u 0) v ≡ some k (λ t. true) (joins f q u v) || bit (get_or l u 0) v
  unfolding near_to near_with some joins
  near_joins zero u v h = refl
  near_joins (suc k) u v h =
      let o = pairs.order k (omega arith) in
      bit_linked (near_to l f q k) (constraint_one f q k) (constraint_two f q k) u v (omega (arith, length_near k)) (omega (arith, length_near k))
      ∙ ap (λ r. joins f q u v k || r) (near_joins k u v (omega arith))
      ∙ sym (or_assoc (joins f q u v k) (some k (λ t. true) (joins f q u v)) (bit (get_or l u 0) v))

  -- The word of a variable of no constraint.
  pub near_none : (k u : ℕ) → ((t : ℕ) → t < k → ¬ (u ≡ constraint_one f q t)) → ((t : ℕ) → t < k → ¬ (u ≡ constraint_two f q t)) →
      get_or (near_to l f q k) u 0 ≡ get_or l u 0
  unfolding near_to near_with
  near_none zero u h g = refl
  near_none (suc k) u h g =
      linked_other (near_to l f q k) (constraint_one f q k) (constraint_two f q k) u (h k (omega arith)) (g k (omega arith))
      ∙ near_none k u (λ t s. h t (omega arith)) (λ t s. g t (omega arith))
