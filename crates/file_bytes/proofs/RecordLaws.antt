-- How long each record is, and a record stored behind those before it.
use Prim.Native.Nat.{ℕ, suc, ◌+◌, ◌*◌, ◌/◌, ◌%◌, ◌≤◌, ◌<◌}
use mathlib.Core.Path.{◌≡◌, refl, ap, ◌∙◌}
use mathlib.Core.Bool.{Bool}
use mathlib.Core.List.{List, [], ◌∷◌, ◌++◌}
use lib.ListN.{length, get_or, set, length-append}
use native.Mathlib.Numerals.{add-one}
use native.Mathlib.Omega.{arith}
use Rattle.std.specs.Prelude.{Option, None, Some}
use Rattle.std.specs.Int.{w16, to_le_bytes}
use Rattle.file_layout.specs.Layout.{QP, RS, CT, TT, EN}
use Rattle.buffer.specs.Stored.{stored, joined}
use Rattle.file_bytes.specs.Bytes.{mark_bytes, word_bytes, qp_bytes, rs_bytes, head_bytes, variable_mark, variable_bytes, variables_bytes, pair_bytes, rows_bytes, constraint_bytes, constraints_bytes, ternary_bytes, Handed, Sized, variables_in, constraints_in, ternary_in, ternaries_in, domain_in, from, one_in, two_in, row_handed, size_in, start_in, count_in, bytes_of, start_of, length_of}
use Rattle.mask.specs.Mask.{bit}
use Rattle.buffer.proofs.StoredLaws.{stored_more, stored_behind, InRow, row_of_width, length-joined, joined-stored, one_each}
use Rattle.file_bytes.proofs.WalkLaws.{start_next}

-- ---- lengths

-- A mark and a word are two bytes long.
pub length_mark : (m : List ℕ) → length (mark_bytes m) ≡ 2
unfolding mark_bytes
length_mark m = refl

pub length-word : (w : ℕ) → length (word_bytes w) ≡ 2
unfolding word_bytes
length-word w = refl

-- The head ends where the variables begin.
pub length_head : (n m : ℕ) (r : Option ℕ) → length (head_bytes n m r) ≡ start_of r
unfolding head_bytes qp_bytes rs_bytes start_of mark_bytes word_bytes
length_head n m None = refl
length_head n m (Some k) = refl

-- A variable takes 4 bytes, a row 2, a constraint 36, of which 4 are its mark and pair; each stands so far behind the one before it.
pub length_variable : (universal : Bool) (domain : ℕ) → length (variable_bytes universal domain) ≡ 4
unfolding variable_bytes mark_bytes word_bytes
length_variable universal domain = refl

pub variables-row : (universal : ℕ → Bool) (domain : ℕ → ℕ) (p k : ℕ) → InRow (λ i. variable_bytes (universal i) (domain i)) p (λ i. p + 4 * i) k
variables-row universal domain = row_of_width (λ i. variable_bytes (universal i) (domain i)) 4 (λ i. length_variable (universal i) (domain i))

pub rows_row : (row : ℕ → ℕ) (p k : ℕ) → InRow (λ a. word_bytes (row a)) p (λ a. p + 2 * a) k
rows_row row = row_of_width (λ a. word_bytes (row a)) 2 (λ a. length-word (row a))

length_rows : (row : ℕ → ℕ) (k : ℕ) → length (rows_bytes row k) ≡ 2 * k
unfolding rows_bytes
length_rows row k = omega (arith, length-joined _ 0 _ k (rows_row row 0 k))

pub length_pair : (m : List ℕ) (i j : ℕ) → length (mark_bytes m ++ pair_bytes i j) ≡ 4
unfolding mark_bytes pair_bytes
length_pair m i j = refl

pub length_constraint : (i j : ℕ) (row : ℕ → ℕ) → length (constraint_bytes i j row) ≡ 36
unfolding constraint_bytes
length_constraint i j row = length-append (mark_bytes CT ++ pair_bytes i j) (rows_bytes row 16) ∙ omega (arith, length_pair CT i j, length_rows row 16)

pub constraints-row : (one two : ℕ → ℕ) (row : ℕ → ℕ → ℕ) (p k : ℕ) → InRow (λ t. constraint_bytes (one t) (two t) (row t)) p (λ t. p + 36 * t) k
constraints-row one two row = row_of_width (λ t. constraint_bytes (one t) (two t) (row t)) 36 (λ t. length_constraint (one t) (two t) (row t))

-- A three-way constraint takes two bytes more than it has numbers, and those before record q two more each.
bytes_row : (x : ℕ → ℕ) (p k : ℕ) → InRow (λ i. x i % 256 ∷ []) p (λ i. p + i) k
bytes_row x p k = record { first = omega arith; next = λ i h. omega arith }

pub length_ternary : (x : ℕ → ℕ) (size : ℕ) → length (ternary_bytes x size) ≡ 2 + size
unfolding ternary_bytes
length_ternary x size = length-append (mark_bytes TT) _ ∙ omega (arith, length_mark TT, one_each (λ k. x k % 256) size)

pub ternaries-row : (xs : List ℕ) (p k : ℕ) → InRow (ternary_in xs) p (λ q. p + (start_in xs q + 2 * q)) k
unfolding ternary_in start_in
ternaries-row xs p k =
    record {
      first = omega arith;
      next = λ q h. omega (arith, start_next xs q, length_ternary (from xs (start_in xs q)) (size_in xs (start_in xs q)));
    }

-- ---- where the parts of a file begin

-- The variables begin at 5, or at 8 behind a rule set.
pub start_least : (r : Option ℕ) → 5 ≤ start_of r
unfolding start_of
start_least None = omega arith
start_least (Some k) = omega arith

pub start_some : (r : Option ℕ) (k : ℕ) → r ≡ Some k → start_of r ≡ 8
unfolding start_of
start_some r k e = rw e

module _ (h : Handed) where
  abbrev head_in : List ℕ
  head_in = head_bytes h.n h.m h.rules

  -- The variables end where the constraints begin.
  pub length_front : length (head_in ++ variables_in h) ≡ start_of h.rules + 4 * h.n
  unfolding variables_bytes
  length_front =
      length-append head_in (variables_in h)
      ∙ omega (arith, length_head h.n h.m h.rules, length-joined _ _ _ _ (variables-row (bit h.universal) (domain_in h.domains) (start_of h.rules) h.n))

  -- The constraints end where the three-way ones begin.
  pub length_body : length ((head_in ++ variables_in h) ++ constraints_in h) ≡ start_of h.rules + 4 * h.n + 36 * h.m
  unfolding constraints_bytes
  length_body =
      let q = start_of h.rules + 4 * h.n in
      length-append (head_in ++ variables_in h) (constraints_in h)
      ∙ omega (arith, length_front, length-joined _ _ _ _ (constraints-row (one_in h.constraints) (two_in h.constraints) (row_handed h.constraints) q h.m))

  -- These end where `EN` begins.
  pub length_records : Sized h →
      length (((head_in ++ variables_in h) ++ constraints_in h) ++ ternaries_in h)
      ≡ start_of h.rules + 4 * h.n + 36 * h.m + (length h.ternaries + 2 * count_in h.ternaries)
  length_records z =
      let q = start_of h.rules + 4 * h.n + 36 * h.m in
      length-append ((head_in ++ variables_in h) ++ constraints_in h) (ternaries_in h)
      ∙ omega (arith, length_body, z.whole, length-joined _ _ _ _ (ternaries-row h.ternaries q (count_in h.ternaries)))

  -- "The length is 7 + 4n + 36m, plus 3 with `RS`", and two more than its numbers for each record `TT`.
  pub length_bytes : Sized h → length (bytes_of h) ≡ length_of h
  unfolding bytes_of length_of
  length_bytes z =
      length-append (((head_in ++ variables_in h) ++ constraints_in h) ++ ternaries_in h) (mark_bytes EN) ∙ omega (arith, length_records z, length_mark EN)

  -- The five parts of a file, stored one behind another.
  pub all_stored : Sized h → (l : List ℕ) →
      stored
      (stored
      (stored
      (stored (stored l 0 head_in) (start_of h.rules) (variables_in h))
      (start_of h.rules + 4 * h.n)
      (constraints_in h))
      (start_of h.rules + 4 * h.n + 36 * h.m)
      (ternaries_in h))
      (start_of h.rules + 4 * h.n + 36 * h.m + (length h.ternaries + 2 * count_in h.ternaries))
      (mark_bytes EN)
      ≡ stored l 0 (bytes_of h)
  unfolding bytes_of
  all_stored w l =
      let s = start_of h.rules in
      let q = s + 4 * h.n in
      let b = q + 36 * h.m in
      let e = b + (length h.ternaries + 2 * count_in h.ternaries) in
      ap (λ (z : List ℕ). stored (stored (stored z q (constraints_in h)) b (ternaries_in h)) e (mark_bytes EN))
      (stored_behind head_in (variables_in h) l s (length_head h.n h.m h.rules))
      ∙ ap (λ (z : List ℕ). stored (stored z b (ternaries_in h)) e (mark_bytes EN)) (stored_behind (head_in ++ variables_in h) (constraints_in h) l q length_front)
      ∙ ap (λ (z : List ℕ). stored z e (mark_bytes EN)) (stored_behind ((head_in ++ variables_in h) ++ constraints_in h) (ternaries_in h) l b length_body)
      ∙ stored_behind (((head_in ++ variables_in h) ++ constraints_in h) ++ ternaries_in h) (mark_bytes EN) l e (length_records w)

-- ---- a record behind those before it

-- Two bytes, one behind the other.
pub two_stored : (l two : List ℕ) (i : ℕ) → set (set l i (get_or two 0 0)) (i + 1) (get_or two 1 0) ≡ stored l i (mark_bytes two)
unfolding mark_bytes stored
two_stored l two i = rw add-one

-- A number of two bytes, as the library takes it apart.
pub word_is : (w : ℕ) → w < 65536 → mark_bytes (to_le_bytes w16 w) ≡ word_bytes w
unfolding mark_bytes word_bytes
word_is w h = let e : w / 256 % 256 ≡ w / 256 = omega arith in ap (λ (y : ℕ). w % 256 ∷ y ∷ []) e

-- `QP` alone, or with `RS` behind it.
abbrev pub head_first : List ℕ → ℕ → ℕ → List ℕ
head_first l n m = stored (set (stored l 0 (mark_bytes QP)) 2 n) 3 (word_bytes m)

pub head_none : (l : List ℕ) (n m : ℕ) (r : Option ℕ) → r ≡ None → head_first l n m ≡ stored l 0 (head_bytes n m r)
unfolding head_bytes qp_bytes rs_bytes stored mark_bytes word_bytes
head_none l n m r e = rw e

pub head_some : (l : List ℕ) (n m k : ℕ) (r : Option ℕ) → r ≡ Some k →
    set (stored (head_first l n m) 5 (mark_bytes RS)) 7 k ≡ stored l 0 (head_bytes n m r)
unfolding head_bytes qp_bytes rs_bytes stored mark_bytes word_bytes
head_some l n m k r e = rw e

-- A mark and a domain behind it; one more variable; one more row.
pub variable_stored : (l : List ℕ) (i : ℕ) (universal : Bool) (domain : ℕ) →
    stored (stored l i (mark_bytes (variable_mark universal))) (i + 2) (word_bytes domain) ≡ stored l i (variable_bytes universal domain)
unfolding variable_bytes
variable_stored l i universal domain = stored_more (mark_bytes (variable_mark universal)) (word_bytes domain) l i 2 (length_mark (variable_mark universal))

pub variables-stored : (l : List ℕ) (i : ℕ) (universal : ℕ → Bool) (domain : ℕ → ℕ) (k : ℕ) →
    stored (stored l i (variables_bytes universal domain k)) (i + 4 * k) (variable_bytes (universal k) (domain k)) ≡ stored l i (variables_bytes universal domain (suc k))
unfolding variables_bytes
variables-stored l i universal domain k = joined-stored _ i _ k (variables-row universal domain i k) l

pub rows_stored : (l : List ℕ) (i : ℕ) (row : ℕ → ℕ) (k : ℕ) →
    stored (stored l i (rows_bytes row k)) (i + 2 * k) (word_bytes (row k)) ≡ stored l i (rows_bytes row (suc k))
unfolding rows_bytes
rows_stored l i row k = joined-stored _ i _ k (rows_row row i k) l

-- A mark, a pair and 16 rows; one more constraint.
pub constraint_stored : (l : List ℕ) (p i j : ℕ) (row : ℕ → ℕ) →
    stored (stored (stored l p (mark_bytes CT)) (p + 2) (pair_bytes i j)) (p + 4) (rows_bytes row 16) ≡ stored l p (constraint_bytes i j row)
unfolding constraint_bytes
constraint_stored l p i j row =
    ap (λ (x : List ℕ). stored x (p + 4) (rows_bytes row 16)) (stored_more (mark_bytes CT) (pair_bytes i j) l p 2 (length_mark CT))
    ∙ stored_more (mark_bytes CT ++ pair_bytes i j) (rows_bytes row 16) l p 4 (length_pair CT i j)

pub constraints-stored : (l : List ℕ) (i : ℕ) (one two : ℕ → ℕ) (row : ℕ → ℕ → ℕ) (k : ℕ) →
    stored (stored l i (constraints_bytes one two row k)) (i + 36 * k) (constraint_bytes (one k) (two k) (row k)) ≡ stored l i (constraints_bytes one two row (suc k))
unfolding constraints_bytes
constraints-stored l i one two row k = joined-stored _ i _ k (constraints-row one two row i k) l

one_stored : (l : List ℕ) (i b : ℕ) → set l i b ≡ stored l i (b ∷ [])
unfolding stored
one_stored l i b = refl

-- One byte more; a mark and the numbers; one more three-way constraint.
pub byte_stored : (l : List ℕ) (i : ℕ) (x : ℕ → ℕ) (k : ℕ) →
    set (stored l i (joined (λ k. x k % 256 ∷ []) k)) (i + k) (x k % 256) ≡ stored l i (joined (λ k. x k % 256 ∷ []) (suc k))
byte_stored l i x k = one_stored _ _ _ ∙ joined-stored (λ k. x k % 256 ∷ []) i (λ k. i + k) k (bytes_row x i k) l

pub ternary_stored : (l : List ℕ) (p : ℕ) (x : ℕ → ℕ) (size : ℕ) →
    stored (stored l p (mark_bytes TT)) (p + 2) (joined (λ k. x k % 256 ∷ []) size) ≡ stored l p (ternary_bytes x size)
unfolding ternary_bytes
ternary_stored l p x size = stored_more (mark_bytes TT) (joined (λ k. x k % 256 ∷ []) size) l p 2 (length_mark TT)

pub ternaries-stored : (l xs : List ℕ) (i k : ℕ) →
    stored (stored l i (joined (ternary_in xs) k)) (i + (start_in xs k + 2 * k)) (ternary_in xs k) ≡ stored l i (joined (ternary_in xs) (suc k))
ternaries-stored l xs i k = joined-stored (ternary_in xs) i _ k (ternaries-row xs i k) l
