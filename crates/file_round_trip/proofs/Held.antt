-- A list g stands in f at p, and what records that stand in a file say of it.
use Prim.Native.Nat.{ℕ, zero, suc, ◌+◌, ◌*◌, ◌/◌, ◌%◌, ◌≤◌, ◌<◌}
use mathlib.Core.Path.{◌≡◌, sym, ap, ◌∙◌}
use mathlib.Core.Bool.{Bool, true, false, ◌||◌, and-false, or-true}
use mathlib.Core.List.{List, [], ◌∷◌, ◌++◌}
use mathlib.Core.Logic.{⊎_elim}
use lib.ListN.{length, get_or, length-append, get_or-append}
use lib.Seq.{get_or-append-add}
use native.Mathlib.Nat.{zero-add, add-zero, add_assoc, eq-or-lt_of_le, le_of_suc-le-suc}
use native.Mathlib.Omega.{arith}
use borrow.Author.Tests.{le-leb, eq-eqb, ne_eqb}
use Rattle.file_layout.specs.Layout.{word, marked, VE, VA, CT, TT, row_at, one_at, two_at, number_at}
use Rattle.file_records.proofs.RecordLaws.{Variable}
use Rattle.buffer.specs.Stored.{joined}
use Rattle.file_bytes.specs.Bytes.{word_bytes, mark_bytes, variable_mark, variable_bytes, pair_bytes, rows_bytes, constraint_bytes, ternary_bytes}
use Rattle.buffer.proofs.StoredLaws.{InRow, row_front, length-joined, one_each, one_at as byte_of}
use Rattle.file_bytes.proofs.RecordLaws.{length_mark, length_pair, length_constraint, length_ternary, rows_row}

-- g stands in f at p.
pub record StandsAt (f : List ℕ) (p : ℕ) (g : List ℕ) : Type 0 where
  pub long : p + length g ≤ length f
  pub same : (r : ℕ) → r < length g → get_or f (p + r) 0 ≡ get_or g r 0

-- All of f stands in it; and of two lists that stand there, each does.
pub whole : (f : List ℕ) → StandsAt f 0 f
whole f = record { long = omega arith; same = λ r h. ap (λ (i : ℕ). get_or f i 0) (zero-add r) }

pub left : (f : List ℕ) (p : ℕ) (g h : List ℕ) → StandsAt f p (g ++ h) → StandsAt f p g
left f p g h a =
    record {
      long = omega (arith, a.long, length-append g h);
      same = λ r l. a.same r (omega (arith, length-append g h)) ∙ get_or-append g h 0 r l;
    }

-- What stands behind g, where that is known to begin at q.
pub right : (f : List ℕ) (p q : ℕ) (g h : List ℕ) → p + length g ≡ q → StandsAt f p (g ++ h) → StandsAt f q h
right f p q g h e a =
    rw (← e)
    (record {
      long = omega (arith, a.long, length-append g h);
      same = λ r l. ap (λ (i : ℕ). get_or f i 0) (add_assoc p (length g) r) ∙ a.same (length g + r) (omega (arith, length-append g h)) ∙ get_or-append-add g h r 0;
    })

-- Of joined lists, list i stands at its place.
pub joined_in : (f : List ℕ) (g : ℕ → List ℕ) (p : ℕ) (at : ℕ → ℕ) (k i : ℕ) → InRow g p at k → StandsAt f p (joined g k) → i < k → StandsAt f (at i) (g i)
unfolding joined
joined_in f g p at zero i r a h = absurd (omega arith)
joined_in f g p at (suc k) i r a h =
    let t = row_front g p at k r in
    ⊎_elim
    (λ (s : i ≡ k). rw s (right f p (at k) (joined g k) (g k) (length-joined g p at k t) a))
    (λ (l : i < k). joined_in f g p at k i t (left f p (joined g k) (g k) a) l)
    (eq-or-lt_of_le (le_of_suc-le-suc h))

-- ---- words and marks

-- A word that stands at p is read there, and a mark is found.
word_is : (f : List ℕ) (p w : ℕ) → StandsAt f p (word_bytes w) → word f p ≡ w
unfolding word_bytes word
word_is f p w a =
    let x : get_or f p 0 ≡ w % 256 = ap (λ (i : ℕ). get_or f i 0) (sym (add-zero p)) ∙ a.same 0 (omega arith) in
    let y : get_or f (p + 1) 0 ≡ w / 256 = a.same 1 (omega arith) in
    omega arith

pub mark_is : (f : List ℕ) (p : ℕ) (m : List ℕ) → StandsAt f p (mark_bytes m) → marked f p m ≡ true
unfolding mark_bytes marked
mark_is f p m a =
    let l : p + 2 ≤ length f = a.long in
    let x : get_or f p 0 ≡ get_or m 0 0 = ap (λ (i : ℕ). get_or f i 0) (sym (add-zero p)) ∙ a.same 0 (omega arith) in
    let y : get_or f (p + 1) 0 ≡ get_or m 1 0 = a.same 1 (omega arith) in
    rw (le-leb (p + 2) (length f) l, eq-eqb (get_or f p 0) (get_or m 0 0) x, eq-eqb (get_or f (p + 1) 0) (get_or m 1 0) y)

-- A mark that differs in one of its two bytes.
pub not_first : (f : List ℕ) (p : ℕ) (m : List ℕ) → (get_or f p 0 ≡ get_or m 0 0 → ⊥) → marked f p m ≡ false
unfolding marked
not_first f p m h = rw (ne_eqb (get_or f p 0) (get_or m 0 0) h, and-false)

not_second : (f : List ℕ) (p : ℕ) (m : List ℕ) → (get_or f (p + 1) 0 ≡ get_or m 1 0 → ⊥) → marked f p m ≡ false
unfolding marked
not_second f p m h = rw (ne_eqb (get_or f (p + 1) 0) (get_or m 1 0) h, and-false, and-false)

-- ---- a variable

-- A variable's mark says whether it is universal.
second : (f : List ℕ) (p : ℕ) → StandsAt f p (mark_bytes VE) → get_or f (p + 1) 0 ≡ 65 → ⊥
unfolding mark_bytes
second f p a e = let y : get_or f (p + 1) 0 ≡ 69 = a.same 1 (omega arith) in omega arith

universal_is : (f : List ℕ) (p : ℕ) (d : Bool) → StandsAt f p (mark_bytes (variable_mark d)) → marked f p VA ≡ d
unfolding variable_mark
universal_is f p true a = mark_is f p VA a
universal_is f p false a = not_second f p VA (second f p a)

either_mark : (f : List ℕ) (p : ℕ) (d : Bool) → StandsAt f p (mark_bytes (variable_mark d)) → (marked f p VE || marked f p VA) ≡ true
unfolding variable_mark
either_mark f p true a = ap (λ (b : Bool). marked f p VE || b) (mark_is f p VA a) ∙ or-true (marked f p VE)
either_mark f p false a = ap (λ (b : Bool). b || marked f p VA) (mark_is f p VE a)

-- What a variable's record says.
module _ (f : List ℕ) (p : ℕ) (d : Bool) (w : ℕ) (a : StandsAt f p (variable_bytes d w)) where
  variable_head : StandsAt f p (mark_bytes (variable_mark d))
  unfolding variable_bytes
  variable_head = left f p (mark_bytes (variable_mark d)) (word_bytes w) a

  pub variable_universal : marked f p VA ≡ d
  variable_universal = universal_is f p d variable_head

  pub variable_domain : word f (p + 2) ≡ w
  unfolding variable_bytes
  variable_domain = word_is f (p + 2) w (right f p _ (mark_bytes (variable_mark d)) (word_bytes w) (ap (λ (x : ℕ). p + x) (length_mark (variable_mark d))) a)

  -- A variable whose domain is not zero.
  pub variable_held : (w ≡ 0 → ⊥) → Variable f p
  unfolding variable_bytes mark_bytes word_bytes
  variable_held s =
      record {
        within = a.long;
        mark = either_mark f p d variable_head;
        domain = λ e. s (sym variable_domain ∙ e);
      }

-- ---- a constraint

-- What a constraint's record says.
module _ (f : List ℕ) (p i j : ℕ) (row : ℕ → ℕ) (a : StandsAt f p (constraint_bytes i j row)) where
  constraint_head : StandsAt f p (mark_bytes CT ++ pair_bytes i j)
  unfolding constraint_bytes
  constraint_head = left f p (mark_bytes CT ++ pair_bytes i j) (rows_bytes row 16) a

  pub constraint_long : p + 36 ≤ length f
  constraint_long = omega (arith, a.long, length_constraint i j row)

  pub constraint_mark : marked f p CT ≡ true
  constraint_mark = mark_is f p CT (left f p (mark_bytes CT) (pair_bytes i j) constraint_head)

  pub constraint_one_lem : one_at f p ≡ i % 256
  unfolding mark_bytes pair_bytes
  constraint_one_lem = constraint_head.same 2 (omega arith)

  pub constraint_two_lem : two_at f p ≡ j % 256
  unfolding mark_bytes pair_bytes
  constraint_two_lem = constraint_head.same 3 (omega arith)

  pub constraint_row_lem : (r : ℕ) → r < 16 → row_at f p r ≡ row r
  unfolding constraint_bytes rows_bytes row_at
  constraint_row_lem r h =
      word_is f (p + 4 + 2 * r) (row r)
      (joined_in f _ (p + 4) _ 16 r (rows_row row (p + 4) 16)
      (right f p _ (mark_bytes CT ++ pair_bytes i j) (rows_bytes row 16) (ap (λ (x : ℕ). p + x) (length_pair CT i j)) a) h)

-- ---- a three-way constraint

-- What a three-way constraint's record says.
module _ (f : List ℕ) (p : ℕ) (x : ℕ → ℕ) (size : ℕ) (a : StandsAt f p (ternary_bytes x size)) where
  pub ternary_long : p + 2 + size ≤ length f
  ternary_long = omega (arith, a.long, length_ternary x size)

  pub ternary_mark : marked f p TT ≡ true
  unfolding ternary_bytes
  ternary_mark = mark_is f p TT (left f p (mark_bytes TT) (joined (λ k. x k % 256 ∷ []) size) a)

  pub ternary_number : (k : ℕ) → k < size → number_at f p k ≡ x k % 256
  unfolding ternary_bytes number_at
  ternary_number k h =
      let b = right f p _ (mark_bytes TT) (joined (λ k. x k % 256 ∷ []) size) (ap (λ (y : ℕ). p + y) (length_mark TT)) a in
      b.same k (omega (arith, one_each (λ k. x k % 256) size)) ∙ byte_of (λ k. x k % 256) size k h
