-- The bytes of each record of an accepted file are the part of the file where it stands, so all of them together are the file.
use Prim.Native.Nat.{ℕ, zero, suc, ◌+◌, ◌*◌, ◌%◌, ◌≤◌, ◌<◌}
use mathlib.Core.Path.{◌≡◌, refl, sym, ap, ◌∙◌}
use mathlib.Core.Bool.{Bool, true, false, cond, ◌||◌, or-false}
use mathlib.Core.List.{List, [], ◌∷◌, ◌++◌}
use lib.ListN.{length, get_or, take, drop, length-append}
use lib.Seq.{drop-cons, take-add, drop-drop, take_all, ext_get_or}
use native.Mathlib.Nat.{zero-add}
use native.Mathlib.Numerals.{add-one}
use native.Mathlib.Omega.{arith}
use Rattle.std.specs.Prelude.{None, Some}
use Rattle.file_layout.specs.Layout.{byte, word, marked, QP, RS, VE, VA, CT, TT, EN, n_of, m_of, t_of, has_rules, rules_of, variables_at, domain_at, universal_at, one_at, two_at, row_at, constraints_at, after_constraints, number_at, body_at, ternary_at, end_at}
use Rattle.file_layout.proofs.LayoutLaws.{mark_out, variables-before, end_behind}
use Rattle.file_records.proofs.RecordLaws.{Variable}
use Rattle.file_reader.proofs.Accepted.{Accepted}
use Rattle.file_lookup.specs.Part.{part}
use Rattle.file_lookup.proofs.PartLaws.{length-part, part-byte}
use Rattle.buffer.specs.Stored.{joined}
use Rattle.file_bytes.specs.Bytes.{word_bytes, mark_bytes, variable_mark, variable_bytes, variables_bytes, pair_bytes, rows_bytes, constraint_bytes, constraints_bytes, head_bytes, qp_bytes, rs_bytes, Handed, domain_in, one_in, two_in, row_handed, ternary_bytes, count_in, ternary_in, bytes_of}
use Rattle.mask.specs.Mask.{bit}
use Rattle.buffer.proofs.StoredLaws.{InRow, row_front, length-joined, one_each, one_at as byte_of}
use Rattle.file_bytes.proofs.RecordLaws.{length-word, length_variable, length_constraint, variables-row, rows_row, constraints-row}

-- A part and the part behind it.
part_more : (f : List ℕ) (p a b : ℕ) → part f p a ++ part f (p + a) b ≡ part f p (a + b)
unfolding part
part_more f p a b = sym (take-add a b (drop p f) ∙ ap (λ (x : List ℕ). take a (drop p f) ++ take b x) (drop-drop a p f))

-- Parts of no, one and two elements.
part_nil : (f : List ℕ) (p : ℕ) → part f p 0 ≡ []
unfolding part
part_nil f p = refl

part-one : (f : List ℕ) (p : ℕ) → p < length f → part f p 1 ≡ get_or f p 0 ∷ []
unfolding part
part-one f p h = ap (take 1) (drop-cons f p 0 h)

part-two : (f : List ℕ) (p : ℕ) → p + 2 ≤ length f → part f p 2 ≡ get_or f p 0 ∷ get_or f (p + 1) 0 ∷ []
unfolding part
part-two f p h =
    let g : p < length f = omega arith in
    let k : suc p < length f = omega arith in
    ap (take 2) (drop-cons f p 0 g ∙ ap (λ (x : List ℕ). get_or f p 0 ∷ x) (drop-cons f (suc p) 0 k))
    ∙ ap (λ (i : ℕ). get_or f p 0 ∷ get_or f i 0 ∷ []) (sym (add-one p))

-- A part from the start, and the part behind it.
part_behind : (f : List ℕ) (k d r : ℕ) → k + d ≡ r → part f 0 k ++ part f k d ≡ part f 0 r
part_behind f k d r s = ap (λ (i : ℕ). part f 0 k ++ part f i d) (sym (zero-add k)) ∙ part_more f 0 k d ∙ ap (part f 0) s

-- A list with a part's bytes is the part.
pub part_is : (f xs : List ℕ) (p : ℕ) → p + length xs ≤ length f → ((k : ℕ) → k < length xs → get_or xs k 0 ≡ get_or f (p + k) 0) →
    xs ≡ part f p (length xs)
part_is f xs p h v =
    ext_get_or 0 xs (part f p (length xs)) (sym (length-part f p (length xs) h))
    (λ k l. v k l ∙ sym (part-byte f p (length xs) k l))

-- A part that is long enough is all of f.
pub part_all : (f : List ℕ) (k : ℕ) → length f ≤ k → part f 0 k ≡ f
unfolding part
part_all f k h = take_all k f h

-- Where the constraints, those of three variables and `EN` begin.
constraints_begin : (f : List ℕ) → variables_at f + 4 * n_of f ≡ constraints_at f
unfolding constraints_at
constraints_begin f = refl

ternaries_begin : (f : List ℕ) → constraints_at f + 36 * m_of f ≡ after_constraints f
unfolding after_constraints
ternaries_begin f = refl

end_begins : (f : List ℕ) → ternary_at f (after_constraints f) (t_of f) ≡ end_at f
unfolding end_at
end_begins f = refl

-- Lists that are parts of f, one behind another, join to a part of f.
pub joined-part : (f : List ℕ) (g : ℕ → List ℕ) (p : ℕ) (at : ℕ → ℕ) (k : ℕ) → InRow g p at k → ((i : ℕ) → i < k → g i ≡ part f (at i) (length (g i))) →
    joined g k ≡ part f p (length (joined g k))
unfolding joined
joined-part f g p at zero r v = sym (part_nil f p)
joined-part f g p at (suc k) r v =
    let t = row_front g p at k r in
    let d = length (joined g k) in
    ap (λ (x : List ℕ). x ++ g k) (joined-part f g p at k t (λ i h. v i (omega arith)))
    ∙ ap (λ (x : List ℕ). part f p d ++ x) (v k (omega arith))
    ∙ ap (λ (q : ℕ). part f p d ++ part f q (length (g k))) (sym (length-joined g p at k t))
    ∙ part_more f p d (length (g k))
    ∙ ap (part f p) (sym (length-append (joined g k) (g k)))

-- A part by the length of the list that it is.
exact : (f g : List ℕ) (p w : ℕ) → g ≡ part f p w → length g ≡ w → g ≡ part f p (length g)
exact f g p w e h = e ∙ ap (part f p) (sym h)

-- Lists of two are the same where their elements are.
two_same : (a b c d : ℕ) → a ≡ c → b ≡ d → ◌≡◌ {A = List ℕ} (a ∷ b ∷ []) (c ∷ d ∷ [])
two_same a b c d p q = rw (p, q)

-- A mark that stands at p.
mark_part : (f : List ℕ) (p : ℕ) (m : List ℕ) → marked f p m ≡ true → mark_bytes m ≡ part f p 2
unfolding mark_bytes
mark_part f p m e =
    let a = mark_out f p m e in
    sym (part-two f p a.within ∙ two_same _ _ _ _ a.one a.two)

-- The mark of a variable.
variable_mark_lem : (f : List ℕ) (p : ℕ) (d : Bool) → marked f p VA ≡ d → (marked f p VE || d) ≡ true → marked f p (variable_mark d) ≡ true
unfolding variable_mark
variable_mark_lem f p true e h = e
variable_mark_lem f p false e h = sym (or-false _) ∙ h

-- ---- the records of a file that is a list of bytes

module _ (f : List ℕ) (bytes : (k : ℕ) → get_or f k 0 < 256) where
  -- A word, and the pair of a constraint.
  word-part : (p : ℕ) → p + 2 ≤ length f → word_bytes (word f p) ≡ part f p 2
  unfolding word_bytes word
  word-part p h =
      let b = bytes p in
      two_same _ _ _ _ (omega arith) (omega arith) ∙ sym (part-two f p h)

  pair_part : (p : ℕ) → p + 4 ≤ length f → pair_bytes (one_at f p) (two_at f p) ≡ part f (p + 2) 2
  unfolding pair_bytes
  pair_part p h =
      let e : p + 3 ≡ p + 2 + 1 = omega arith in
      rw e
      (two_same _ _ _ _ (omega (arith, bytes (p + 2))) (omega (arith, bytes (p + 2 + 1)))
      ∙ sym (part-two f (p + 2) (omega arith)))

  -- A variable's record.
  pub variable_part : (b k : ℕ) → Variable f (b + 4 * k) → variable_bytes (universal_at f b k) (domain_at f b k) ≡ part f (b + 4 * k) 4
  unfolding variable_bytes universal_at domain_at
  variable_part b k v =
      let p = b + 4 * k in
      let m = variable_mark_lem f p (marked f p VA) refl v.mark in
      ap (λ (x : List ℕ). x ++ word_bytes (word f (p + 2))) (mark_part f p _ m)
      ∙ ap (λ (x : List ℕ). part f p 2 ++ x) (word-part (p + 2) (omega (arith, v.within)))
      ∙ part_more f p 2 2

  -- A row of the constraint at p.
  row-part : (p a : ℕ) → p + 36 ≤ length f → a < 16 → word_bytes (row_at f p a) ≡ part f (p + 4 + 2 * a) 2
  unfolding row_at
  row-part p a h l = word-part (p + 4 + 2 * a) (omega arith)

  -- A constraint's record, given its numbers.
  pub constraint_part : (p i j : ℕ) (row : ℕ → ℕ) → p + 36 ≤ length f → marked f p CT ≡ true → i ≡ one_at f p → j ≡ two_at f p →
      ((a : ℕ) → a < 16 → row a ≡ row_at f p a) → constraint_bytes i j row ≡ part f p 36
  unfolding constraint_bytes rows_bytes
  constraint_part p i j row h m ei ej er =
      let R = joined (λ a. word_bytes (row a)) 16 in
      ap (λ (x : List ℕ). (x ++ pair_bytes i j) ++ R) (mark_part f p CT m)
      ∙ ap (λ (x : List ℕ). (part f p 2 ++ x) ++ R) (rw (ei, ej) (pair_part p (omega arith)))
      ∙ ap (λ (x : List ℕ). x ++ R) (part_more f p 2 2)
      ∙ ap (λ (x : List ℕ). part f p 4 ++ x)
      (joined-part f _ (p + 4) _ 16 (rows_row row (p + 4) 16) (λ a l. exact f _ _ 2 (ap word_bytes (er a l) ∙ row-part p a h l) (length-word (row a)))
      ∙ ap (part f (p + 4)) (omega (arith, length-joined _ _ _ _ (rows_row row (p + 4) 16))))
      ∙ part_more f p 4 32

  -- The record of a three-way constraint, given its numbers.
  pub ternary_part : (p : ℕ) (x : ℕ → ℕ) → p + 2 + body_at f p ≤ length f → marked f p TT ≡ true →
      ((k : ℕ) → k < body_at f p → x k ≡ number_at f p k) →
      ternary_bytes x (body_at f p) ≡ part f p (2 + body_at f p)
  unfolding ternary_bytes number_at
  ternary_part p x h m e =
      let size = body_at f p in
      let ys = joined (λ k. x k % 256 ∷ []) size in
      let l : length ys ≡ size = one_each (λ k. x k % 256) size in
      ap (λ (z : List ℕ). z ++ ys) (mark_part f p TT m)
      ∙ ap (λ (z : List ℕ). part f p 2 ++ z)
      (part_is f ys (p + 2) (omega arith)
      (λ k g.
      let r : k < size = omega arith in
      byte_of (λ k. x k % 256) size k r ∙ omega (arith, e k r, bytes (p + 2 + k)))
      ∙ ap (part f (p + 2)) l)
      ∙ part_more f p 2 size

  -- `QP`, and `RS` where d says that it stands.
  qp_part : 5 ≤ length f → marked f 0 QP ≡ true → qp_bytes (n_of f) (m_of f) ≡ part f 0 5
  unfolding qp_bytes
  qp_part h m =
      ap (λ (x : List ℕ). x ++ (byte f 2 ∷ []) ++ word_bytes (word f 3)) (mark_part f 0 QP m)
      ∙ ap (λ (x : List ℕ). part f 0 2 ++ (byte f 2 ∷ []) ++ x) (word-part 3 h)
      ∙ ap (λ (x : List ℕ). part f 0 2 ++ x ++ part f 3 2) (sym (part-one f 2 (omega arith)))
      ∙ ap (λ (x : List ℕ). x ++ part f 3 2) (part_more f 0 2 1)
      ∙ part_more f 0 3 2

  rs_part : (d : Bool) → marked f 5 RS ≡ d → cond d 8 5 ≤ length f → rs_bytes (cond d (Some (byte f 7)) None) ≡ part f 5 (cond d 3 0)
  unfolding rs_bytes
  rs_part true m h =
      ap (λ (x : List ℕ). x ++ (byte f 7 ∷ [])) (mark_part f 5 RS m)
      ∙ ap (λ (x : List ℕ). part f 5 2 ++ x) (sym (part-one f 7 h))
      ∙ part_more f 5 2 1
  rs_part false m h = sym (part_nil f 5)

  -- Where `RS` ends.
  sum : (d : Bool) → 5 + cond d 3 0 ≡ cond d 8 5
  sum true = refl
  sum false = refl

  -- Lists as long as the records `TT` stand where these stand.
  ternary_row : (p : ℕ) (g : ℕ → List ℕ) (k : ℕ) → ((q : ℕ) → q < k → length (g q) ≡ 2 + body_at f (ternary_at f p q)) → InRow g p (ternary_at f p) k
  unfolding ternary_at
  ternary_row p g k l = record { first = refl; next = λ q h. omega (arith, l q h) }

  -- `QP` and `RS`.
  head_part : Accepted f → head_bytes (n_of f) (m_of f) (rules_of f) ≡ part f 0 (variables_at f)
  unfolding head_bytes rules_of variables_at
  head_part a =
      let v : cond (has_rules f) 8 5 ≤ length f = omega (arith, a.size, variables-before f, end_behind f) in
      ap (λ (x : List ℕ). x ++ rs_bytes (rules_of f)) (qp_part a.head.within a.head.mark)
      ∙ ap (λ (x : List ℕ). part f 0 5 ++ x) (rs_part (has_rules f) refl v)
      ∙ part_more f 0 5 (cond (has_rules f) 3 0)
      ∙ ap (part f 0) (sum (has_rules f))

  -- The bytes of numbers whose records are the file's parts are the file.
  pub bytes_part : Accepted f → (h : Handed) → h.n ≡ n_of f → h.m ≡ m_of f → h.rules ≡ rules_of f → count_in h.ternaries ≡ t_of f →
      ((i : ℕ) → i < n_of f → variable_bytes (bit h.universal i) (domain_in h.domains i) ≡ part f (variables_at f + 4 * i) 4) →
      ((t : ℕ) → t < m_of f → constraint_bytes (one_in h.constraints t) (two_in h.constraints t) (row_handed h.constraints t) ≡ part f (constraints_at f + 36 * t) 36) →
      ((q : ℕ) → q < t_of f →
      let p = ternary_at f (after_constraints f) q in
      ternary_in h.ternaries q ≡ part f p (2 + body_at f p)) →
      bytes_of h ≡ f
  unfolding bytes_of variables_bytes constraints_bytes
  bytes_part a h en em er et vs cs ts =
      let b = variables_at f in
      let q = constraints_at f in
      let r = after_constraints f in
      let e = end_at f in
      let at = ternary_at f r in
      let S = variables_bytes (bit h.universal) (domain_in h.domains) in
      let C = constraints_bytes (one_in h.constraints) (two_in h.constraints) (row_handed h.constraints) in
      let T = joined (ternary_in h.ternaries) in
      let rv = variables-row (bit h.universal) (domain_in h.domains) b (n_of f) in
      let rc = constraints-row (one_in h.constraints) (two_in h.constraints) (row_handed h.constraints) q (m_of f) in
      let lt : (k : ℕ) → k < t_of f → length (ternary_in h.ternaries k) ≡ 2 + body_at f (at k)
      = λ k l. ap length (ts k l) ∙ length-part f (at k) (2 + body_at f (at k)) (omega (arith, (a.ternary k l).within)) in
      let rt = ternary_row r (ternary_in h.ternaries) (t_of f) lt in
      rw (en, em, er, et)
      (ap (λ (z : List ℕ). (((z ++ S (n_of f)) ++ C (m_of f)) ++ T (t_of f)) ++ mark_bytes EN) (head_part a)
      ∙ ap (λ (z : List ℕ). (((part f 0 b ++ z) ++ C (m_of f)) ++ T (t_of f)) ++ mark_bytes EN)
      (joined-part f _ b _ (n_of f) rv (λ i h. exact f _ _ 4 (vs i h) (length_variable _ _)))
      ∙ ap (λ (z : List ℕ). ((z ++ C (m_of f)) ++ T (t_of f)) ++ mark_bytes EN) (part_behind f b _ q (length-joined _ _ _ _ rv ∙ constraints_begin f))
      ∙ ap (λ (z : List ℕ). ((part f 0 q ++ z) ++ T (t_of f)) ++ mark_bytes EN)
      (joined-part f _ q _ (m_of f) rc (λ t h. exact f _ _ 36 (cs t h) (length_constraint _ _ _)))
      ∙ ap (λ (z : List ℕ). (z ++ T (t_of f)) ++ mark_bytes EN) (part_behind f q _ r (length-joined _ _ _ _ rc ∙ ternaries_begin f))
      ∙ ap (λ (z : List ℕ). (part f 0 r ++ z) ++ mark_bytes EN) (joined-part f _ r at (t_of f) rt (λ k l. exact f _ _ _ (ts k l) (lt k l)))
      ∙ ap (λ (z : List ℕ). z ++ mark_bytes EN) (part_behind f r _ e (length-joined _ _ _ _ rt ∙ end_begins f))
      ∙ ap (λ (z : List ℕ). part f 0 e ++ z) (mark_part f e EN a.ends)
      ∙ part_behind f e 2 (e + 2) refl
      ∙ part_all f (e + 2) (omega (arith, a.size)))
