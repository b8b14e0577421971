-- What stands where in a problem file. The layout is fixed, so every value is read by its place; a byte past the end is 0.
use Rattle.std.specs.Prelude.{ℕ, zero, suc, ◌+◌, ◌*◌, Bool, cond, ◌&&◌, List, [], ◌∷◌, length, get_or, leb, eqb, Option, Some, None}
use Rattle.refusal.specs.declared.reason.Reason.TheVariants.{Short, Mark}
use Rattle.refusal.specs.Reason.{◌at◌}
use Rattle.refusal.specs.Chain.{Verdict, ◌then◌, need}
use Rattle.file_layout.specs.Numbers.{pair_of}

abbrev pub byte : List ℕ → ℕ → ℕ
byte f p = get_or f p 0

-- "Numbers of two bytes have the low byte first."
unfoldable pub word : List ℕ → ℕ → ℕ
word f p = get_or f p 0 + 256 * get_or f (p + 1) 0

-- The marks.
abbrev pub QP : List ℕ
QP = 81 ∷ 80 ∷ []

abbrev pub RS : List ℕ
RS = 82 ∷ 83 ∷ []

abbrev pub VE : List ℕ
VE = 86 ∷ 69 ∷ []

abbrev pub VA : List ℕ
VA = 86 ∷ 65 ∷ []

abbrev pub CT : List ℕ
CT = 67 ∷ 84 ∷ []

abbrev pub TT : List ℕ
TT = 84 ∷ 84 ∷ []

abbrev pub EN : List ℕ
EN = 69 ∷ 78 ∷ []

-- The two bytes at p are there, and are the mark.
unfoldable pub marked : List ℕ → ℕ → List ℕ → Bool
marked f p mark = leb (p + 2) (length f) && (eqb (get_or f p 0) (get_or mark 0 0) && eqb (get_or f (p + 1) 0) (get_or mark 1 0))

-- How every record begins: two bytes for a mark (1), a mark that may stand here (2), and a whole body of k bytes (1).
unfoldable pub opened : List ℕ → ℕ → Bool → ℕ → Verdict
opened f p right k = need (leb (p + 2) (length f)) (Short at p) then need right (Mark at p) then need (leb (p + 2 + k) (length f)) (Short at p)

-- `QP`: one byte n, two bytes m.
abbrev pub n_of : List ℕ → ℕ
n_of f = byte f 2

abbrev pub m_of : List ℕ → ℕ
m_of f = word f 3

-- `RS`: at most once, directly after `QP`: one byte, the rule set.
abbrev pub has_rules : List ℕ → Bool
has_rules f = marked f 5 RS

unfoldable pub rules_of : List ℕ → Option ℕ
rules_of f = cond (has_rules f) (Some (byte f 7)) None

-- Where the variables begin.
unfoldable pub variables_at : List ℕ → ℕ
variables_at f = cond (has_rules f) 8 5

-- `VE` or `VA`: two bytes, a mask of values. Of variable i, in a file whose variables begin at b.
unfoldable pub domain_at : List ℕ → ℕ → ℕ → ℕ
domain_at f b i = word f (b + 4 * i + 2)

unfoldable pub universal_at : List ℕ → ℕ → ℕ → Bool
universal_at f b i = marked f (b + 4 * i) VA

-- `CT`: bytes i and j, then 16 rows of two bytes. Of the constraint at p.
abbrev pub one_at : List ℕ → ℕ → ℕ
one_at f p = byte f (p + 2)

abbrev pub two_at : List ℕ → ℕ → ℕ
two_at f p = byte f (p + 3)

unfoldable pub row_at : List ℕ → ℕ → ℕ → ℕ
row_at f p a = word f (p + 4 + 2 * a)

unfoldable pub pair_at : List ℕ → ℕ → ℕ
pair_at f p = pair_of (one_at f p) (two_at f p)

-- Where the constraints begin, and the place behind the last one.
unfoldable pub constraints_at : List ℕ → ℕ
constraints_at f = variables_at f + 4 * n_of f

unfoldable pub after_constraints : List ℕ → ℕ
after_constraints f = constraints_at f + 36 * m_of f

-- `TT`: "bytes i < j < k < n, a count of 1 to 16, and that many good triples .. three bytes each". Number x of the record at p, and how long its body is: "4
-- bytes and 3 more for each triple counted, even where the count is wrong".
unfoldable pub number_at : List ℕ → ℕ → ℕ → ℕ
number_at f p x = byte f (p + 2 + x)

unfoldable pub body_at : List ℕ → ℕ → ℕ
body_at f p = 4 + 3 * number_at f p 3

-- The place of record q of those that stand one behind another from p on.
unfoldable pub ternary_at : List ℕ → ℕ → ℕ → ℕ
ternary_at f p zero = p
ternary_at f p (suc q) = ternary_at f p q + 2 + body_at f (ternary_at f p q)

-- How many marks `TT` stand in a row from p on, each behind the record before it; no more than k are counted.
unfoldable pub leading : List ℕ → ℕ → ℕ → ℕ
leading f p zero = 0
leading f p (suc k) = cond (marked f p TT) (suc (leading f (p + 2 + body_at f p) k)) 0

-- `TT` stands "after the last `CT`", and "Only `EN` follows them". Variables and records
-- together are at most 32, so no more than 33 need be counted.
unfoldable pub t_of : List ℕ → ℕ
t_of f = leading f (after_constraints f) 33

-- The place behind the last record before `EN`.
unfoldable pub end_at : List ℕ → ℕ
end_at f = ternary_at f (after_constraints f) (t_of f)
