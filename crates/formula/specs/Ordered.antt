-- A formula's booleans and literals in ascending order (document 02, card 1): "literals ascend by their boolean's number".
use Rattle.std.specs.Prelude.{Bool, true, ◌&&◌, List, [], ◌∷◌, ℕ, suc, T, eqb, ltb, leb, length}
use Rattle.formula.specs.Formula.{Literal, Quantified, Formula}

-- The booleans of the prefix are v, v + 1, ..
unfoldable pub counting : ℕ → List Quantified → Bool
counting v [] = true
counting v (q ∷ qs) = eqb q.boolean v && counting (suc v) qs

-- The literals of a clause ascend by their booleans' numbers, above v and at most `most`.
unfoldable pub ascending : ℕ → ℕ → List Literal → Bool
ascending most v [] = true
ascending most v (l ∷ ls) = (ltb v l.boolean && leb l.boolean most) && ascending most l.boolean ls

unfoldable pub all_ascend : ℕ → List (List Literal) → Bool
all_ascend most [] = true
all_ascend most (c ∷ cs) = ascending most 0 c && all_ascend most cs

pub record Ordered (F : Formula) : Type 0 where
  pub prefix : T (counting 1 F.prefix)
  pub clauses : T (all_ascend (length F.prefix) F.clauses)
