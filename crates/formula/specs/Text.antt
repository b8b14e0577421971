-- A formula as text, and the formula that a text states (document 02, card 1). "Single spaces part the numbers, a line feed ends each
-- line, comments are not written."
use Rattle.std.specs.Prelude.{Bool, cond, not, ◌&&◌, ◌||◌, List, [], ◌∷◌, ◌++◌, ℕ, zero, suc, ◌+◌, ◌-◌, ◌*◌, eqb, leb, get_or, length}
use Rattle.mask.specs.Range.{first}
use Rattle.buffer.specs.Decimal.{decimal}
use Rattle.buffer.specs.Stored.{together}
use Rattle.formula.specs.Formula.{Literal, Quantified, Formula}

-- ---- writing

-- "p cnf "
abbrev pub problem_label : List ℕ
problem_label = 112 ∷ 32 ∷ 99 ∷ 110 ∷ 102 ∷ 32 ∷ []

-- A blank; the end of a line of numbers.
abbrev pub blank : List ℕ
blank = 32 ∷ []

abbrev pub line_end : List ℕ
line_end = 48 ∷ 10 ∷ []

-- "p cnf V C": booleans and clauses.
unfoldable pub header_text : ℕ → ℕ → List ℕ
header_text v c = together (problem_label ∷ decimal v ∷ blank ∷ decimal c ∷ (10 ∷ []) ∷ [])

-- How a line of the prefix begins: a letter for its side.
unfoldable pub letter : Bool → ℕ
letter universal = cond universal 97 101

abbrev pub line_start : Bool → List ℕ
line_start u = letter u ∷ 32 ∷ []

-- What is left of the prefix inside a line of side u: "equal neighbours are joined".
unfoldable pub in_line : Bool → List Quantified → List ℕ
in_line u [] = line_end
in_line u (q ∷ qs) =
    cond (eqb (letter u) (letter q.universal))
    ((decimal q.boolean ++ blank) ++ in_line u qs)
    ((line_end ++ line_start q.universal) ++ ((decimal q.boolean ++ blank) ++ in_line q.universal qs))

unfoldable pub prefix_text : List Quantified → List ℕ
prefix_text [] = []
prefix_text (q ∷ qs) = line_start q.universal ++ ((decimal q.boolean ++ blank) ++ in_line q.universal qs)

-- A clause is a line of its own; a negation has a minus in front.
unfoldable pub literal_text : Literal → List ℕ
literal_text l = cond l.positive (decimal l.boolean) (45 ∷ decimal l.boolean)

unfoldable pub clause_text : List Literal → List ℕ
clause_text [] = line_end
clause_text (l ∷ ls) = (literal_text l ++ blank) ++ clause_text ls

unfoldable pub clauses_text : List (List Literal) → List ℕ
clauses_text [] = []
clauses_text (c ∷ cs) = clause_text c ++ clauses_text cs

-- "Write a job in QDIMACS."
unfoldable pub text_of : Formula → List ℕ
text_of F = header_text (length F.prefix) (length F.clauses) ++ (prefix_text F.prefix ++ clauses_text F.clauses)

-- ---- reading, by places; a byte past the end is 0

unfoldable pub is_digit : ℕ → Bool
is_digit b = leb 48 b && leb b 57

-- How many digits stand at p, up to nine; the number that the first k of them make; the number there.
unfoldable pub digits_at : List ℕ → ℕ → ℕ
digits_at t p = first 9 (λ k. not (is_digit (get_or t (p + k) 0)))

unfoldable pub value_to : List ℕ → ℕ → ℕ → ℕ
value_to t p zero = 0
value_to t p (suc k) = 10 * value_to t p k + (get_or t (p + k) 0 - 48)

unfoldable pub number_at : List ℕ → ℕ → ℕ
number_at t p = value_to t p (digits_at t p)

-- The place behind the number at p and the one byte that parts it from what follows.
unfoldable pub after : List ℕ → ℕ → ℕ
after t p = p + digits_at t p + 1

-- A minus stands at p; where the number of the literal at p begins.
unfoldable pub negative : List ℕ → ℕ → Bool
negative t p = eqb (get_or t p 0) 45

unfoldable pub number_from : List ℕ → ℕ → ℕ
number_from t p = cond (negative t p) (p + 1) p

-- The literals from p up to a zero, no more than k; the place behind them, the zero and the byte behind it.
unfoldable pub literals_at : List ℕ → ℕ → ℕ → List Literal
literals_at t zero p = []
literals_at t (suc k) p =
    cond (eqb (number_at t (number_from t p)) 0) []
    (record { positive = not (negative t p); boolean = number_at t (number_from t p) } ∷ literals_at t k (after t (number_from t p)))

unfoldable pub end_at : List ℕ → ℕ → ℕ → ℕ
end_at t zero p = p
end_at t (suc k) p = cond (eqb (number_at t (number_from t p)) 0) (after t (number_from t p)) (end_at t k (after t (number_from t p)))

-- Lines of the prefix from p on, no more than k: those that begin with a letter.
unfoldable pub is_letter : ℕ → Bool
is_letter b = eqb b 97 || eqb b 101

unfoldable pub quantified : Bool → List Literal → List Quantified
quantified u [] = []
quantified u (l ∷ ls) = record { universal = u; boolean = l.boolean } ∷ quantified u ls

module _ (t : List ℕ) (most : ℕ) where
  unfoldable pub blocks_at : ℕ → ℕ → List Quantified
  blocks_at zero p = []
  blocks_at (suc k) p =
      cond (is_letter (get_or t p 0)) (quantified (eqb (get_or t p 0) 97) (literals_at t most (p + 2)) ++ blocks_at k (end_at t most (p + 2))) []

  unfoldable pub blocks_end : ℕ → ℕ → ℕ
  blocks_end zero p = p
  blocks_end (suc k) p = cond (is_letter (get_or t p 0)) (blocks_end k (end_at t most (p + 2))) p

  -- The c clauses from p on.
  unfoldable pub clauses_at : ℕ → ℕ → List (List Literal)
  clauses_at zero p = []
  clauses_at (suc c) p = literals_at t most p ∷ clauses_at c (end_at t most p)

-- The formula that a text states, by the two numbers of its first line: what the judge judges ("writes the text into the lent buffer and
-- judges that text").
unfoldable pub read_text : List ℕ → Formula
read_text t =
    let v = number_at t 6 in
    let q = after t 6 in
    let c = number_at t q in
    let p = after t q in
    record { prefix = blocks_at t (suc v) (suc v) p; clauses = clauses_at t (suc v) c (blocks_end t (suc v) (suc v) p) }
