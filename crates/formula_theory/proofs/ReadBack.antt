-- The text of a formula, read back, is that formula.
use mathlib.Core.Path.{◌≡◌, refl, sym, ap, ◌∙◌}
use mathlib.Core.Bool.{Bool, true, false, cond, not}
use mathlib.Core.List.{List, [], ◌∷◌, ◌++◌, append_assoc}
use Prim.Native.Nat.{ℕ, zero, suc, ◌+◌, ◌-◌, ◌*◌, ◌/◌, ◌%◌, ◌≤◌, ◌<◌, ◌^◌}
use native.Mathlib.Nat.{zero-add, add-zero, add_assoc}
use native.Mathlib.Omega.{arith}
use lib.Dec.{eqb}
use lib.ListN.{get_or, length, length-append, get_or-append}
use lib.Seq.{get_or-append-add, get_or-append_seam}
use borrow.Author.Tests.{ne_eqb, le-leb, lt-leb}
use Rattle.mask.specs.Range.{first}
use Rattle.mask.proofs.Logic.{clash, by_lt}
use Rattle.mask.proofs.Range.{first_is}
use Rattle.buffer.specs.Decimal.{digit, decimal}
use Rattle.buffer.specs.Stored.{together}
use Rattle.buffer.proofs.DecimalLaws.{decimal-one, decimal_more, decimal_short}
use Rattle.formula.specs.Formula.{Literal, Quantified, Formula}
use Rattle.formula.specs.Text
use Rattle.formula_theory.proofs.Forms.{all_have}

-- The list g stands in t at p.
abbrev pub At : List ℕ → ℕ → List ℕ → Type 0
At t p g = (r : ℕ) → r < length g → get_or t (p + r) 0 ≡ get_or g r 0

at_left : (t : List ℕ) (p : ℕ) (g h : List ℕ) → At t p (g ++ h) → At t p g
at_left t p g h a r l = a r (omega (arith, length-append g h)) ∙ get_or-append g h 0 r l

at_right : (t : List ℕ) (p q : ℕ) (g h : List ℕ) → p + length g ≡ q → At t p (g ++ h) → At t q h
at_right t p q g h e a r l = rw (← e, add_assoc p (length g) r) (a (length g + r) (omega (arith, length-append g h)) ∙ get_or-append-add g h r 0)

at_byte : (t : List ℕ) (p b : ℕ) (g : List ℕ) → At t p (b ∷ g) → get_or t p 0 ≡ b
at_byte t p b g a = rw (← (add-zero p)) (a 0 (omega arith))

-- A digit in the text, and what is none.
digit_is : (b : ℕ) → 48 ≤ b → b ≤ 57 → Text.is_digit b ≡ true
unfolding Text.is_digit
digit_is b h k = rw (le-leb 48 b h, le-leb b 57 k)

low_none : (b : ℕ) → b < 48 → Text.is_digit b ≡ false
unfolding Text.is_digit
low_none b h = rw (lt-leb 48 b h)

high_none : (b : ℕ) → 57 < b → Text.is_digit b ≡ false
unfolding Text.is_digit
high_none b h = rw (le-leb 48 b (omega arith), lt-leb b 57 h)

digit_not_minus : (b : ℕ) → Text.is_digit b ≡ true → eqb b 45 ≡ false
digit_not_minus b e = ne_eqb b 45 λ z. let w : Text.is_digit 45 ≡ true = rw z at e in absurd (clash (low_none 45 (omega arith)) (rw w tt))

-- ---- a number

-- The bytes xs at p are digits and make the number x.
pub record Reads (t : List ℕ) (p : ℕ) (xs : List ℕ) (x : ℕ) : Type 0 where
  pub digits : (r : ℕ) → r < length xs → Text.is_digit (get_or t (p + r) 0) ≡ true
  pub value : Text.value_to t p (length xs) ≡ x

snoc_reads : (t : List ℕ) (p : ℕ) (xs : List ℕ) (y d : ℕ) → d < 10 → Reads t p xs y → At t p (xs ++ (digit d ∷ [])) → Reads t p (xs ++ (digit d ∷ [])) (10 * y + d)
unfolding Text.value_to digit
snoc_reads t p xs y d h r a =
    record {
      digits = λ i l. by_lt i (length xs) (r.digits i) λ g. let e : i ≡ length xs = omega (arith, long) in rw (e, last) (digit_is (48 + d) (omega arith) (omega arith));
      value = let e : length (xs ++ ((48 + d) ∷ [])) ≡ suc (length xs) = omega (arith, long) in rw (e, last, r.value) (omega arith);
    }
  where
    long : length (xs ++ ((48 + d) ∷ [])) ≡ length xs + 1
    long = length-append xs ((48 + d) ∷ [])

    last : get_or t (p + length xs) 0 ≡ 48 + d
    last = at_byte t (p + length xs) (48 + d) [] (at_right t p (p + length xs) xs ((48 + d) ∷ []) refl a)

none_reads : (t : List ℕ) (p : ℕ) → Reads t p [] 0
unfolding Text.value_to
none_reads t p = record { digits = λ r l. absurd (omega arith); value = refl }

small_reads : (x : ℕ) → x < 10 → (t : List ℕ) (p : ℕ) → At t p (decimal x) → Reads t p (decimal x) x
small_reads x l t p a = rw (decimal-one x l) (rw (zero-add x) at (snoc_reads t p [] 0 x l (none_reads t p) (rw (decimal-one x l) at a)))

number_reads : (k x : ℕ) → x ≤ k → (t : List ℕ) (p : ℕ) → At t p (decimal x) → Reads t p (decimal x) x
number_reads zero x h t p a = small_reads x (omega arith) t p a
number_reads (suc k) x h t p a = by_lt x 10 (λ l. small_reads x l t p a) (λ l. more l (number_reads k (x / 10) (omega (arith, h, l)) t p))
  where
    more : 10 ≤ x → (At t p (decimal (x / 10)) → Reads t p (decimal (x / 10)) (x / 10)) → Reads t p (decimal x) x
    more l f =
        let a' : At t p (decimal (x / 10) ++ (digit (x % 10) ∷ [])) = rw (decimal_more x l) at a in
        let e : 10 * (x / 10) + x % 10 ≡ x = omega arith in
        rw (decimal_more x l) (rw e at (snoc_reads t p (decimal (x / 10)) (x / 10) (x % 10) (omega arith) (f (at_left t p (decimal (x / 10)) (digit (x % 10) ∷ []) a')) a'))

-- Numbers are below this bound, so that nine digits are never full.
abbrev pub bound : ℕ
bound = 10 ^ 8

-- A number with a byte behind it that is no digit: how many digits there are, and the number.
pub number_at_lem : (t : List ℕ) (p x b : ℕ) (g : List ℕ) → x < bound → b < 48 → At t p (decimal x ++ (b ∷ g))
    → (Text.digits_at t p ≡ length (decimal x)) × (Text.number_at t p ≡ x) × (Text.after t p ≡ p + length (decimal x) + 1)
unfolding Text.digits_at Text.number_at Text.after
number_at_lem t p x b g h l a =
    let r = number_reads x x (omega arith) t p (at_left t p (decimal x) (b ∷ g) a) in
    let z : get_or t (p + length (decimal x)) 0 ≡ b = at_byte t (p + length (decimal x)) b g (at_right t p (p + length (decimal x)) (decimal x) (b ∷ g) refl a) in
    let e : first 9 (λ k. not (Text.is_digit (get_or t (p + k) 0))) ≡ length (decimal x) =
    first_is 9 (λ k. not (Text.is_digit (get_or t (p + k) 0))) (length (decimal x)) (omega (arith, decimal_short 7 x h)) (rw (z, low_none b l) tt) (λ j m. rw (r.digits j m)) in
    (e, rw e r.value, rw e)

-- ---- a line of numbers

decimal-some : (x : ℕ) → 0 < length (decimal x)
decimal-some x =
    by_lt x 10 (λ l. rw (decimal-one x l) (omega arith))
    λ l. rw (decimal_more x l) (omega (arith, length-append (decimal (x / 10)) (digit (x % 10) ∷ [])))

-- The zero that ends a line.
zero_at : (t : List ℕ) (p : ℕ) → At t p Text.line_end → (Text.number_at t (Text.number_from t p) ≡ 0) × (Text.after t (Text.number_from t p) ≡ p + 2)
unfolding Text.number_from Text.negative digit
zero_at t p a =
    let z : get_or t p 0 ≡ 48 = at_byte t p 48 (10 ∷ []) a in
    let d : decimal 0 ≡ 48 ∷ [] = decimal-one 0 (omega arith) in
    let r = number_at_lem t p 0 10 [] (omega arith) (omega arith) (rw d a) in
    let e : length (decimal 0) ≡ 1 = rw d in
    rw z (r.1, r.2 ∙ (rw e (omega arith)))

-- A boolean's number.
abbrev pub Numbered : ℕ → Type 0
Numbered x = (0 < x) × (x < bound)

literal_at : (t : List ℕ) (p : ℕ) (l : Literal) (g : List ℕ) → Numbered l.boolean → At t p (Text.literal_text l ++ (32 ∷ g))
    → (Text.negative t p ≡ not l.positive) × (Text.number_at t (Text.number_from t p) ≡ l.boolean) × (Text.after t (Text.number_from t p) ≡ p + length (Text.literal_text l) + 1)
unfolding Text.literal_text Text.number_from Text.negative
literal_at t p l g h a = go l.positive a
  where
    go : (b : Bool) → At t p (cond b (decimal l.boolean) (45 ∷ decimal l.boolean) ++ (32 ∷ g))
        → (eqb (get_or t p 0) 45 ≡ not b) × (Text.number_at t (cond (eqb (get_or t p 0) 45) (p + 1) p) ≡ l.boolean)
        × (Text.after t (cond (eqb (get_or t p 0) 45) (p + 1) p) ≡ p + length (cond b (decimal l.boolean) (45 ∷ decimal l.boolean)) + 1)
    go true a =
        let r = number_at_lem t p l.boolean 32 g h.1 (omega arith) a in
        let d = (number_reads l.boolean l.boolean (omega arith) t p (at_left t p (decimal l.boolean) (32 ∷ g) a)).digits 0 (decimal-some l.boolean) in
        let e : eqb (get_or t p 0) 45 ≡ false = digit_not_minus (get_or t p 0) (rw (add-zero p) at d) in
        rw e (refl, r.1, r.2)
    go false a =
        let z : get_or t p 0 ≡ 45 = at_byte t p 45 (decimal l.boolean ++ (32 ∷ g)) a in
        let r = number_at_lem t (p + 1) l.boolean 32 g h.1 (omega arith) (at_right t p (p + 1) (45 ∷ []) (decimal l.boolean ++ (32 ∷ g)) refl a) in
        rw z (refl, r.1, r.2 ∙ (omega arith))

twice : (b : Bool) → not (not b) ≡ b
twice true = refl
twice false = refl

-- Literals up to the zero.
unfoldable pub fits : List Literal → Type 0
fits [] = Unit {0}
fits (l ∷ ls) = Numbered l.boolean × fits ls

clause_at_lem : (t : List ℕ) (k p : ℕ) (ls : List Literal) → length ls < k → fits ls → At t p (Text.clause_text ls)
    → (Text.literals_at t k p ≡ ls) × (Text.end_at t k p ≡ p + length (Text.clause_text ls))
unfolding Text.clause_text Text.literals_at Text.end_at fits
clause_at_lem t zero p ls h f a = absurd (omega arith)
clause_at_lem t (suc k) p [] h f a = let z = zero_at t p a in rw z.0 (refl, z.1)
clause_at_lem t (suc k) p (l ∷ ls) h f a =
    let g = Text.literal_text l in
    let r = literal_at t p l [] f.0 (at_left t p (g ++ Text.blank) (Text.clause_text ls) a) in
    let q = Text.after t (Text.number_from t p) in
    let e : p + length (g ++ Text.blank) ≡ q = omega (arith, length-append g Text.blank, r.2) in
    let ih = clause_at_lem t k q ls (omega arith) f.1 (at_right t p q (g ++ Text.blank) (Text.clause_text ls) e a) in
    let z : eqb (Text.number_at t (Text.number_from t p)) 0 ≡ false = ne_eqb (Text.number_at t (Text.number_from t p)) 0 (λ w. omega (arith, w, r.1, f.0.0)) in
    let u : not (Text.negative t p) ≡ l.positive = ap not r.0 ∙ twice l.positive in (
      rw (z, u, r.1, ih.0),
      rw z (ih.1 ∙ omega (arith, e, length-append (g ++ Text.blank) (Text.clause_text ls))),
    )

-- ---- clauses

abbrev pub all_fit : ℕ → List (List Literal) → Type 0
all_fit most = all_have (λ c. (length c < most) × fits c)

clauses_at_lem : (t : List ℕ) (most p : ℕ) (cs : List (List Literal)) → all_fit most cs → At t p (Text.clauses_text cs) → Text.clauses_at t most (length cs) p ≡ cs
unfolding Text.clauses_text Text.clauses_at all_have
clauses_at_lem t most p [] f a = refl
clauses_at_lem t most p (c ∷ cs) f a =
    let r = clause_at_lem t most p c f.0.0 f.0.1 (at_left t p (Text.clause_text c) (Text.clauses_text cs) a) in
    let ih = clauses_at_lem t most (Text.end_at t most p) cs f.1 (at_right t p (Text.end_at t most p) (Text.clause_text c) (Text.clauses_text cs) (sym r.1) a) in
    rw (r.0, ih)

-- ---- the prefix

unfoldable pub all_numbered : List Quantified → Type 0
all_numbered [] = Unit {0}
all_numbered (q ∷ qs) = Numbered q.boolean × all_numbered qs

-- A positive number in a line, with the blank behind it.
plain_at : (t : List ℕ) (p v : ℕ) (g : List ℕ) → Numbered v → At t p ((decimal v ++ Text.blank) ++ g)
    → (Text.number_at t (Text.number_from t p) ≡ v) × (eqb (Text.number_at t (Text.number_from t p)) 0 ≡ false) × (p + length (decimal v ++ Text.blank) ≡ Text.after t (Text.number_from t p))
unfolding Text.literal_text
plain_at t p v g h a =
    let r = literal_at t p (record { positive = true; boolean = v }) [] h (at_left t p (decimal v ++ Text.blank) g a) in (
      r.1,
      ne_eqb (Text.number_at t (Text.number_from t p)) 0 (λ w. omega (arith, w, r.1, h.0)),
      omega (arith, length-append (decimal v) Text.blank, r.2),
    )

letter_is : (u : Bool) → (Text.is_letter (Text.letter u) ≡ true) × (eqb (Text.letter u) 97 ≡ u)
unfolding Text.is_letter Text.letter
letter_is true = (refl, refl)
letter_is false = (refl, refl)

module _ (t : List ℕ) (most z : ℕ) (plain : Text.is_letter z ≡ false) where
  -- What reading makes of the rest of a line of side u at p, and of the lines behind it, is qs, and ends at e.
  pub record Lines (u : Bool) (k m p : ℕ) (qs : List Quantified) (e : ℕ) : Type 0 where
    pub is : Text.quantified u (Text.literals_at t k p) ++ Text.blocks_at t most m (Text.end_at t k p) ≡ qs
    pub ends : Text.blocks_end t most m (Text.end_at t k p) ≡ e

  -- No line behind it.
  last_line : (u : Bool) (k m p : ℕ) → At t p (Text.line_end ++ (z ∷ [])) → Lines u (suc k) (suc m) p [] (p + 2)
  unfolding Text.literals_at Text.end_at Text.quantified Text.blocks_at Text.blocks_end
  last_line u k m p a =
      let r = zero_at t p (at_left t p Text.line_end (z ∷ []) a) in
      let b : get_or t (p + 2) 0 ≡ z = at_byte t (p + 2) z [] (at_right t p (p + 2) Text.line_end (z ∷ []) refl a) in
      record { is = rw (r.0, r.1, b, plain); ends = rw (r.0, r.1, b, plain) }

  -- One more number in the line.
  same_line : (u : Bool) (k m p v : ℕ) (g : List ℕ) (qs : List Quantified) (e : ℕ) → Numbered v → At t p ((decimal v ++ Text.blank) ++ g)
      → Lines u k m (p + length (decimal v ++ Text.blank)) qs e → Lines u (suc k) m p (record { universal = u; boolean = v } ∷ qs) e
  unfolding Text.literals_at Text.end_at Text.quantified
  same_line u k m p v g qs e h a y =
      let r = plain_at t p v g h a in
      let y' : Lines u k m (Text.after t (Text.number_from t p)) qs e = rw r.2 at y in
      record { is = rw (r.1, r.0) (ap {B = List Quantified} (λ w. record { universal = u; boolean = v } ∷ w) y'.is); ends = rw r.1 y'.ends }

  -- A line of another side.
  next_line_lem : (u w : Bool) (k m p : ℕ) (g : List ℕ) (qs : List Quantified) (e : ℕ) → At t p ((Text.line_end ++ (Text.letter w ∷ 32 ∷ [])) ++ g)
      → Lines w most m (p + 4) qs e → Lines u (suc k) (suc m) p qs e
  unfolding Text.literals_at Text.end_at Text.quantified Text.blocks_at Text.blocks_end
  next_line_lem u w k m p g qs e a y =
      let c = at_left t p (Text.line_end ++ (Text.letter w ∷ 32 ∷ [])) g a in
      let r = zero_at t p (at_left t p Text.line_end (Text.letter w ∷ 32 ∷ []) c) in
      let b : get_or t (p + 2) 0 ≡ Text.letter w = at_byte t (p + 2) (Text.letter w) (32 ∷ []) (at_right t p (p + 2) Text.line_end (Text.letter w ∷ 32 ∷ []) refl c) in
      let n : p + 2 + 2 ≡ p + 4 = omega arith in
      record { is = rw (r.0, r.1, b, (letter_is w).0, (letter_is w).1, n) y.is; ends = rw (r.0, r.1, b, (letter_is w).0, n) y.ends }

  -- The number v in a line of its own side, or in a new one, and then the rest g.
  stay : (u : Bool) (k m p v : ℕ) (qs : List Quantified) → Numbered v → At t p (((decimal v ++ Text.blank) ++ Text.in_line u qs) ++ (z ∷ []))
      → ((x : ℕ) → At t x (Text.in_line u qs ++ (z ∷ [])) → Lines u k m x qs (x + length (Text.in_line u qs)))
      → Lines u (suc k) m p (record { universal = u; boolean = v } ∷ qs) (p + length ((decimal v ++ Text.blank) ++ Text.in_line u qs))
  stay u k m p v qs h a f =
      let g = decimal v ++ Text.blank in
      let b : At t p (g ++ (Text.in_line u qs ++ (z ∷ []))) = rw (append_assoc g (Text.in_line u qs) (z ∷ [])) at a in
      let e : p + length g + length (Text.in_line u qs) ≡ p + length (g ++ Text.in_line u qs) = omega (arith, length-append g (Text.in_line u qs)) in
      rw e at (same_line u k m p v (Text.in_line u qs ++ (z ∷ [])) qs (p + length g + length (Text.in_line u qs)) h b
      (f (p + length g) (at_right t p (p + length g) g (Text.in_line u qs ++ (z ∷ [])) refl b)))

  turn-over : (u w : Bool) (k m p v : ℕ) (qs : List Quantified) → 0 < most → Numbered v
      → At t p (((Text.line_end ++ Text.line_start w) ++ ((decimal v ++ Text.blank) ++ Text.in_line w qs)) ++ (z ∷ []))
      → ((x : ℕ) → At t x (Text.in_line w qs ++ (z ∷ [])) → Lines w (most - 1) m x qs (x + length (Text.in_line w qs)))
      → Lines u (suc k) (suc m) p (record { universal = w; boolean = v } ∷ qs) (p + length ((Text.line_end ++ Text.line_start w) ++ ((decimal v ++ Text.blank) ++ Text.in_line w qs)))
  turn-over u w k m p v qs l h a f =
      let g = (decimal v ++ Text.blank) ++ Text.in_line w qs in
      let b : At t p ((Text.line_end ++ Text.line_start w) ++ (g ++ (z ∷ []))) = a in
      let c = at_right t p (p + 4) (Text.line_end ++ Text.line_start w) (g ++ (z ∷ [])) refl b in
      let d : suc (most - 1) ≡ most = omega arith in
      let y : Lines w most m (p + 4) (record { universal = w; boolean = v } ∷ qs) (p + 4 + length g) = rw d at (stay w (most - 1) m (p + 4) v qs h c f) in
      let e : p + 4 + length g ≡ p + length ((Text.line_end ++ Text.line_start w) ++ g) = omega (arith, length-append (Text.line_end ++ Text.line_start w) g) in
      rw e at (next_line_lem u w k m p (g ++ (z ∷ [])) (record { universal = w; boolean = v } ∷ qs) (p + 4 + length g) b y)

  -- By counts that are not zero.
  counted : (u : Bool) (k m p : ℕ) (qs : List Quantified) (e : ℕ) → 0 < k → 0 < m → Lines u (suc (k - 1)) (suc (m - 1)) p qs e → Lines u k m p qs e
  counted u k m p qs e h i y = let a : suc (k - 1) ≡ k = omega arith in let b : suc (m - 1) ≡ m = omega arith in rw (a, b) at y

  lines_at : (qs : List Quantified) (u : Bool) (k m p : ℕ) → length qs < k → length qs < most → length qs < m → all_numbered qs → At t p (Text.in_line u qs ++ (z ∷ []))
      → Lines u k m p qs (p + length (Text.in_line u qs))
  unfolding Text.in_line all_numbered Text.letter
  lines_at [] u k m p h i j f a = counted u k m p [] (p + 2) h j (last_line u (k - 1) (m - 1) p a)
  lines_at (q ∷ qs) u k m p h i j f a =
      go u q.universal a
      (λ x. lines_at qs u (k - 1) m x (omega arith) (omega arith) (omega arith) f.1) (λ w x. lines_at qs w (most - 1) (m - 1) x (omega arith) (omega arith) (omega arith) f.1)
    where
      go : (u w : Bool)
          → At t p (cond (eqb (Text.letter u) (Text.letter w)) ((decimal q.boolean ++ Text.blank) ++ Text.in_line u qs) ((Text.line_end ++ Text.line_start w) ++ ((decimal q.boolean ++ Text.blank) ++ Text.in_line w qs)) ++ (z ∷ []))
          → ((x : ℕ) → At t x (Text.in_line u qs ++ (z ∷ [])) → Lines u (k - 1) m x qs (x + length (Text.in_line u qs)))
          → ((w : Bool) (x : ℕ) → At t x (Text.in_line w qs ++ (z ∷ [])) → Lines w (most - 1) (m - 1) x qs (x + length (Text.in_line w qs)))
          → Lines u k m p (record { universal = w; boolean = q.boolean } ∷ qs)
          (p + length (cond (eqb (Text.letter u) (Text.letter w)) ((decimal q.boolean ++ Text.blank) ++ Text.in_line u qs) ((Text.line_end ++ Text.line_start w) ++ ((decimal q.boolean ++ Text.blank) ++ Text.in_line w qs))))
      go true true a s o = let e : suc (k - 1) ≡ k = omega arith in rw e at (stay true (k - 1) m p q.boolean qs f.0 a s)
      go true false a s o = counted true k m p _ _ (omega arith) (omega arith) (turn-over true false (k - 1) (m - 1) p q.boolean qs (omega arith) f.0 a (o false))
      go false true a s o = counted false k m p _ _ (omega arith) (omega arith) (turn-over false true (k - 1) (m - 1) p q.boolean qs (omega arith) f.0 a (o true))
      go false false a s o = let e : suc (k - 1) ≡ k = omega arith in rw e at (stay false (k - 1) m p q.boolean qs f.0 a s)

-- ---- the whole text

-- A formula that a text can hold: numbers in range, a prefix, clauses no longer than it, and a clause that begins with a number.
pub record Plain (F : Formula) : Type 0 where
  pub prefix : all_numbered F.prefix
  pub some : 0 < length F.prefix
  pub count : length F.prefix < bound
  pub clauses : all_fit (suc (length F.prefix)) F.clauses
  pub many : length F.clauses < bound
  pub first : 0 < length F.clauses

-- One byte more, whatever it is.
at_more : (t : List ℕ) (p : ℕ) (g : List ℕ) → At t p g → At t p (g ++ (get_or t (p + length g) 0 ∷ []))
at_more t p g a r l =
    by_lt r (length g) (λ h. a r h ∙ sym (get_or-append g (get_or t (p + length g) 0 ∷ []) 0 r h))
    λ h. let e : r ≡ length g = omega (arith, l, length-append g (get_or t (p + length g) 0 ∷ [])) in
    rw e (sym (get_or-append_seam g (get_or t (p + length g) 0) [] 0))

digit_no_letter : (b : ℕ) → Text.is_digit b ≡ true → Text.is_letter b ≡ false
unfolding Text.is_letter
digit_no_letter b e =
    let x : eqb b 97 ≡ false = ne_eqb b 97 (λ z. let w : Text.is_digit 97 ≡ true = rw z at e in absurd (clash (high_none 97 (omega arith)) (rw w tt))) in
    let y : eqb b 101 ≡ false = ne_eqb b 101 (λ z. let w : Text.is_digit 101 ≡ true = rw z at e in absurd (clash (high_none 101 (omega arith)) (rw w tt))) in
    rw (x, y)

-- A clause begins with no letter.
clause_no_letter : (t : List ℕ) (p : ℕ) (c : List Literal) → fits c → At t p (Text.clause_text c) → Text.is_letter (get_or t p 0) ≡ false
unfolding Text.clause_text Text.literal_text Text.is_letter fits
clause_no_letter t p [] f a = let z : get_or t p 0 ≡ 48 = at_byte t p 48 (10 ∷ []) a in rw z
clause_no_letter t p (l ∷ ls) f a =
    go l.positive (at_left t p (Text.literal_text l) Text.blank (at_left t p (Text.literal_text l ++ Text.blank) (Text.clause_text ls) a))
  where
    go : (b : Bool) → At t p (cond b (decimal l.boolean) (45 ∷ decimal l.boolean)) → Text.is_letter (get_or t p 0) ≡ false
    go true a = digit_no_letter (get_or t p 0) (rw (add-zero p) at ((number_reads l.boolean l.boolean (omega arith) t p a).digits 0 (decimal-some l.boolean)))
    go false a = let z : get_or t p 0 ≡ 45 = at_byte t p 45 (decimal l.boolean) a in rw z

clauses_no_letter : (t : List ℕ) (p most : ℕ) (cs : List (List Literal)) → 0 < length cs → all_fit most cs → At t p (Text.clauses_text cs) → Text.is_letter (get_or t p 0) ≡ false
unfolding Text.clauses_text all_have
clauses_no_letter t p most [] h f a = absurd (omega arith)
clauses_no_letter t p most (c ∷ cs) h f a = clause_no_letter t p c f.0.1 (at_left t p (Text.clause_text c) (Text.clauses_text cs) a)

-- The lines of the prefix at p, and where they end.
prefix_at : (t : List ℕ) (most m p : ℕ) (qs : List Quantified) → 0 < length qs → length qs < most → length qs ≤ m → all_numbered qs → At t p (Text.prefix_text qs)
    → Text.is_letter (get_or t (p + length (Text.prefix_text qs)) 0) ≡ false
    → (Text.blocks_at t most (suc m) p ≡ qs) × (Text.blocks_end t most (suc m) p ≡ p + length (Text.prefix_text qs))
unfolding Text.prefix_text Text.blocks_at Text.blocks_end all_numbered
prefix_at t most m p [] h i j f a n = absurd (omega arith)
prefix_at t most m p (q ∷ qs) h i j f a n =
    let w = q.universal in
    let g = (decimal q.boolean ++ Text.blank) ++ Text.in_line w qs in
    let b : get_or t p 0 ≡ Text.letter w = at_byte t p (Text.letter w) (32 ∷ g) a in
    let z = get_or t (p + 2 + length g) 0 in
    let e : p + length (Text.line_start w ++ g) ≡ p + 2 + length g = omega (arith, length-append (Text.line_start w) g) in
    let n' : Text.is_letter z ≡ false = rw e at n in
    let d : suc (most - 1) ≡ most = omega arith in
    let y : Lines t most z n' w most m (p + 2) (record { universal = w; boolean = q.boolean } ∷ qs) (p + 2 + length g) =
    rw d at (stay t most z n' w (most - 1) m (p + 2) q.boolean qs f.0 (at_more t (p + 2) g (at_right t p (p + 2) (Text.line_start w) g refl a))
    (λ x. lines_at t most z n' qs w (most - 1) m x (omega arith) (omega arith) (omega arith) f.1)) in
    (rw (b, (letter_is w).0, (letter_is w).1) y.is, rw (b, (letter_is w).0) (y.ends ∙ sym e))

-- The two numbers of the first line, and where it ends.
header_at : (t : List ℕ) (v c : ℕ) → v < bound → c < bound → At t 0 (Text.header_text v c)
    → (Text.number_at t 6 ≡ v) × (Text.number_at t (Text.after t 6) ≡ c) × (Text.after t (Text.after t 6) ≡ length (Text.header_text v c))
unfolding Text.header_text together
header_at t v c h i a =
    let g = decimal c ++ (10 ∷ []) in
    let a6 : At t 6 (decimal v ++ (32 ∷ g)) = at_right t 0 6 Text.problem_label (decimal v ++ (32 ∷ g)) refl a in
    let r = number_at_lem t 6 v 32 g h (omega arith) a6 in
    let e : 6 + length (decimal v ++ Text.blank) ≡ Text.after t 6 = omega (arith, length-append (decimal v) Text.blank, r.2) in
    let b : At t 6 ((decimal v ++ Text.blank) ++ g) = rw (append_assoc (decimal v) Text.blank g) a6 in
    let q = number_at_lem t (Text.after t 6) c 10 [] i (omega arith) (at_right t 6 (Text.after t 6) (decimal v ++ Text.blank) g e b) in
    (r.1, q.1, q.2 ∙ omega (arith, r.2, length-append (decimal v) (32 ∷ g), length-append (decimal c) (10 ∷ [])))

-- "the emitted text read back is that formula".
pub read_back : (F : Formula) → Plain F → Text.read_text (Text.text_of F) ≡ F
unfolding Text.read_text Text.text_of
read_back F y =
    let nv = length F.prefix in
    let nc = length F.clauses in
    let t = Text.header_text nv nc ++ (Text.prefix_text F.prefix ++ Text.clauses_text F.clauses) in
    let p = length (Text.header_text nv nc) in
    let a : At t 0 t = λ r l. ap (λ (i : ℕ). get_or t i 0) (zero-add r) in
    let r = header_at t nv nc y.count y.many (at_left t 0 (Text.header_text nv nc) (Text.prefix_text F.prefix ++ Text.clauses_text F.clauses) a) in
    let b = at_right t 0 p (Text.header_text nv nc) (Text.prefix_text F.prefix ++ Text.clauses_text F.clauses) (zero-add p) a in
    let c = at_right t p (p + length (Text.prefix_text F.prefix)) (Text.prefix_text F.prefix) (Text.clauses_text F.clauses) refl b in
    let x = prefix_at t (suc nv) nv p F.prefix y.some (omega arith) (omega arith) y.prefix (at_left t p (Text.prefix_text F.prefix) (Text.clauses_text F.clauses) b)
    (clauses_no_letter t (p + length (Text.prefix_text F.prefix)) (suc nv) F.clauses y.first y.clauses c) in
    rw (r.0, r.1, r.2, x.0, x.1, clauses_at_lem t (suc nv) (p + length (Text.prefix_text F.prefix)) F.clauses y.clauses c)

-- The first number of the text is how many booleans the formula has.
pub header_told : (F : Formula) → Plain F → Text.number_at (Text.text_of F) 6 ≡ length F.prefix
unfolding Text.text_of
header_told F y =
    let nv = length F.prefix in
    let nc = length F.clauses in
    let t = Text.header_text nv nc ++ (Text.prefix_text F.prefix ++ Text.clauses_text F.clauses) in
    (header_at t nv nc y.count y.many (at_left t 0 (Text.header_text nv nc) (Text.prefix_text F.prefix ++ Text.clauses_text F.clauses) (λ r l. ap (λ (i : ℕ). get_or t i 0) (zero-add r)))).0
