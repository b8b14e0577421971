-- Literals as text, each with a blank.
use Rattle.std.specs.Prelude.{ℕ, suc, ◌+◌, Bool, false, true, cond, not, List, [], ◌∷◌, ◌++◌}
use Rattle.mask.specs.Mask.{bit}
use Rattle.buffer.specs.Decimal.{decimal}
use Rattle.buffer.specs.Stored.{joined}
use Rattle.formula.specs.Formula.{Literal}
use Rattle.formula.specs.Text.{blank, literal_text}
use Rattle.formula_words.specs.declared.coded.Coded.{Coded}

unfoldable pub literal_word : Bool → ℕ → List ℕ
literal_word positive x = literal_text (record { positive = positive; boolean = x }) ++ blank

unfoldable pub literals_text : List Literal → List ℕ
literals_text [] = []
literals_text (l ∷ ls) = literal_word l.positive l.boolean ++ literals_text ls

-- The k booleans behind `base`: as numbers, and as literals.
unfoldable pub words_text : ℕ → ℕ → List ℕ
words_text base k = joined (λ t. decimal (suc (base + t)) ++ blank) k

unfoldable pub positives : ℕ → ℕ → List Literal
positives base k = joined (λ t. record { positive = true; boolean = suc (base + t) } ∷ []) k

-- The opposite of each of the first k bits of code c.
unfoldable pub bits_denied : ℕ → ℕ → ℕ → List Literal
bits_denied base k c = joined (λ t. record { positive = not (bit c t); boolean = suc (base + t) } ∷ []) k

-- The literals that deny way c: `denial` of formula/specs/Encoding.antt.
unfoldable pub denial_of : Coded → ℕ → List Literal
denial_of x c = cond x.universal (bits_denied x.base x.width c) (record { positive = false; boolean = suc (x.base + c) } ∷ [])
