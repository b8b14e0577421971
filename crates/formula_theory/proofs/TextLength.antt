-- How long the text of a problem's formula is.
use mathlib.Core.Bool.{Bool, true, false, cond}
use mathlib.Core.List.{List, [], ◌∷◌, ◌++◌}
use Prim.Native.Nat.{ℕ, suc, ◌+◌, ◌*◌, ◌≤◌, ◌<◌}
use native.Mathlib.Nat.{mul-suc}
use native.Mathlib.Omega.{arith}
use lib.Dec.{eqb}
use lib.ListN.{length, length-append}
use Rattle.game.specs.Problem.{Problem}
use Rattle.buffer.specs.Decimal.{decimal}
use Rattle.buffer.specs.Stored.{together}
use Rattle.buffer.proofs.DecimalLaws.{decimal_short}
use Rattle.formula.specs.Formula.{Literal, Quantified, Formula}
use Rattle.formula.specs.Encoding.{formula_of}
use Rattle.formula.specs.Text.{blank, line_end, line_start, letter, header_text, in_line, prefix_text, literal_text, clause_text, clauses_text, text_of}
use Rattle.formula_theory.proofs.Forms.{all_have}
use Rattle.formula_theory.proofs.PrefixLaws.{booleans_most}
use Rattle.formula_theory.proofs.CountLaws.{clauses_most}
use Rattle.formula_theory.proofs.ReadBack.{bound, Numbered, fits, all_fit, all_numbered, Plain}
use Rattle.formula_theory.proofs.Printed.{formula_plain}

-- A number with the byte behind it: no more than nine bytes.
number_most : (v : ℕ) → v < bound → length (decimal v ++ blank) ≤ 9
number_most v h = omega (arith, length-append (decimal v) blank, decimal_short 7 v h)

header_most : (v c : ℕ) → v < bound → c < bound → length (header_text v c) ≤ 24
unfolding header_text together
header_most v c h k =
    omega (arith, length-append (decimal v) (blank ++ (decimal c ++ (10 ∷ []))), length-append (decimal c) (10 ∷ []), decimal_short 7 v h, decimal_short 7 c k)

-- A boolean of the prefix: no more than 13 bytes, those of a new line among them.
line_most : (u : Bool) (qs : List Quantified) → all_numbered qs → length (in_line u qs) ≤ 2 + 13 * length qs
unfolding in_line all_numbered
line_most u [] f = omega arith
line_most u (q ∷ qs) f =
    go (eqb (letter u) (letter q.universal)) (number_most q.boolean f.0.1) (line_most u qs f.1) (line_most q.universal qs f.1)
  where
    go : (b : Bool) → length (decimal q.boolean ++ blank) ≤ 9 → length (in_line u qs) ≤ 2 + 13 * length qs → length (in_line q.universal qs) ≤ 2 + 13 * length qs
        → length (cond b ((decimal q.boolean ++ blank) ++ in_line u qs) ((line_end ++ line_start q.universal) ++ ((decimal q.boolean ++ blank) ++ in_line q.universal qs))) ≤ 2 + 13 * suc (length qs)
    go true d r s = let m = mul-suc 13 (length qs) in omega (arith, length-append (decimal q.boolean ++ blank) (in_line u qs))
    go false d r s = let m = mul-suc 13 (length qs) in omega (arith, length-append (decimal q.boolean ++ blank) (in_line q.universal qs))

prefix_most : (qs : List Quantified) → all_numbered qs → length (prefix_text qs) ≤ 4 + 13 * length qs
unfolding prefix_text all_numbered
prefix_most [] f = omega arith
prefix_most (q ∷ qs) f =
    let m = mul-suc 13 (length qs) in let d = number_most q.boolean f.0.1 in let r = line_most q.universal qs f.1 in
    omega (arith, length-append (decimal q.boolean ++ blank) (in_line q.universal qs))

-- A literal: no more than ten bytes.
literal_most : (l : Literal) → Numbered l.boolean → length (literal_text l ++ blank) ≤ 10
unfolding literal_text
literal_most l h = go l.positive
  where
    go : (b : Bool) → length (cond b (decimal l.boolean) (45 ∷ decimal l.boolean) ++ blank) ≤ 10
    go true = let d = number_most l.boolean h.1 in omega arith
    go false = let d = number_most l.boolean h.1 in omega arith

clause_most : (ls : List Literal) → fits ls → length (clause_text ls) ≤ 2 + 10 * length ls
unfolding clause_text fits
clause_most [] f = omega arith
clause_most (l ∷ ls) f =
    let m = mul-suc 10 (length ls) in let d = literal_most l f.0 in let r = clause_most ls f.1 in
    omega (arith, length-append (literal_text l ++ blank) (clause_text ls))

-- A clause of no more than 512 literals: no more than 5122 bytes.
clauses_text_lem : (most : ℕ) (cs : List (List Literal)) → most ≤ 513 → all_fit most cs → length (clauses_text cs) ≤ 5122 * length cs
unfolding clauses_text all_have
clauses_text_lem most [] h f = omega arith
clauses_text_lem most (c ∷ cs) h f =
    let m = mul-suc 5122 (length cs) in let d = clause_most c f.0.1 in let l = f.0.0 in let r = clauses_text_lem most cs h f.1 in
    omega (arith, length-append (clause_text c) (clauses_text cs))

text-length : (F : Formula) → Plain F → length F.prefix ≤ 512 → length (text_of F) ≤ 6684 + 5122 * length F.clauses
unfolding text_of
text-length F y h =
    let a = header_most (length F.prefix) (length F.clauses) y.count y.many in
    let b = prefix_most F.prefix y.prefix in
    let c = clauses_text_lem (suc (length F.prefix)) F.clauses (omega arith) y.clauses in
    omega (arith, length-append (header_text (length F.prefix) (length F.clauses)) (prefix_text F.prefix ++ clauses_text F.clauses), length-append (prefix_text F.prefix) (clauses_text F.clauses))

-- At most 2^40 bytes.
pub text_most : (P : Problem) → 0 < P.n → P.n ≤ 32 → length (text_of (formula_of P)) ≤ 1099511627776
text_most P some many =
    let t = text-length (formula_of P) (formula_plain P some many) (booleans_most P some many) in
    let c = clauses_most P some many in
    omega arith
