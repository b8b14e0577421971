-- The formula of a problem (document 02, card 1).
use Rattle.std.specs.Prelude.{Bool, true, false, cond, not, ◌&&◌, List, [], ◌∷◌, ◌++◌, ℕ, zero, suc, ◌+◌, ◌-◌, ◌%◌, ◌^◌, eqb, ltb, leb}
use Rattle.mask.specs.Range.{count, first}
use Rattle.mask.specs.Mask.{bit}
use Rattle.buffer.specs.Stored.{joined}
use Rattle.game.specs.Problem.{Problem}
use Rattle.game.specs.Lists.{domains}
use Rattle.formula.specs.Formula.{Literal, Quantified, Formula, only_if}

-- "k the least number of at least 1 with 2^k at least d", for d up to 16.
unfoldable pub bits_for : ℕ → ℕ
bits_for d = suc (first 4 (λ k. leb d (2 ^ suc k)))

-- How many booleans d values become: of an existential variable, "each option of a shift's choice becomes one existential boolean"; of a
-- universal one, "a day's choice with d options becomes k universal booleans".
unfoldable pub width_for : Bool → ℕ → ℕ
width_for universal d = cond universal (bits_for d) d

-- How many ways stand for d values: 2^k codes, or one boolean each.
unfoldable pub ways_for : Bool → ℕ → ℕ
ways_for universal d = cond universal (2 ^ bits_for d) d

-- The k booleans from v on, under one quantifier.
unfoldable pub run : Bool → ℕ → ℕ → List Quantified
run u v zero = []
run u v (suc k) = record { universal = u; boolean = v } ∷ run u (suc v) k

module _ (P : Problem) where
  open P use {n, domain, universal, compatible, constrained}

  -- How many values variable i has, and how many of them are below a: the place of a in ascending order.
  unfoldable pub size : ℕ → ℕ
  size i = count 16 (domains domain i)

  unfoldable pub place : ℕ → ℕ → ℕ
  place i a = count a (domains domain i)

  -- How many booleans variable i becomes, and how many come before them.
  unfoldable pub width : ℕ → ℕ
  width i = width_for (universal i) (size i)

  unfoldable pub base : ℕ → ℕ
  base zero = 0
  base (suc i) = base i + width i

  -- The number of its boolean t. "Numbering: booleans ascend in order of play, then option or bit."
  unfoldable pub boolean_of : ℕ → ℕ → ℕ
  boolean_of i t = suc (base i + t)

  -- Its ways. "code c, low bit first, stands for the option at place c mod d in ascending order"; boolean c, below d, for the value at
  -- place c.
  unfoldable pub ways : ℕ → ℕ
  ways i = ways_for (universal i) (size i)

  unfoldable pub stands : ℕ → ℕ → ℕ → Bool
  stands i c a = domains domain i a && eqb (c % size i) (place i a)

  -- The literals that deny way c: of a code each bit's opposite, low bit first; of a boolean its negation.
  unfoldable pub denial : ℕ → ℕ → List Literal
  denial i c =
      cond (universal i)
      (joined (λ t. record { positive = not (bit c t); boolean = boolean_of i t } ∷ []) (width i))
      (record { positive = false; boolean = boolean_of i c } ∷ [])

  -- "with a clause that at least one holds".
  unfoldable pub at_least_one : ℕ → List Literal
  at_least_one i = joined (λ t. record { positive = true; boolean = boolean_of i t } ∷ []) (size i)

  unfoldable pub existential_clauses : List (List Literal)
  existential_clauses = joined (λ i. only_if (not (universal i)) (at_least_one i ∷ [])) n

  -- Value a of i and value b of j clash.
  unfoldable pub clash : ℕ → ℕ → ℕ → ℕ → Bool
  clash i a j b = domains domain i a && domains domain j b && not (compatible i a j b)

  -- "Each clash becomes one clause for each pair of codes or booleans that stand for it", "codes ascending within a clash (in both the
  -- lower choice's slowest)".
  unfoldable pub clash_clauses : ℕ → ℕ → ℕ → ℕ → List (List Literal)
  clash_clauses i a j b =
      joined (λ c. only_if (stands i c a) (joined (λ e. only_if (stands j e b) ((denial i c ++ denial j e) ∷ [])) (ways j))) (ways i)

  -- Of one constraint, "clashes ascending"; of all, "tables in file order".
  unfoldable pub constraint_clauses : ℕ → ℕ → List (List Literal)
  constraint_clauses i j = joined (λ a. joined (λ b. only_if (clash i a j b) (clash_clauses i a j b)) 16) 16

  unfoldable pub pair_clauses : List (List Literal)
  pair_clauses = joined (λ i. joined (λ j. only_if (ltb i j && constrained i j) (constraint_clauses i j)) n) n

  -- "If the last choice is the day's, a fresh existential boolean with a positive clause of its own closes the prefix."
  unfoldable pub closes : Bool
  closes = universal (n - 1)

  unfoldable pub fresh : ℕ
  fresh = suc (base n)

  unfoldable pub closing_clauses : List (List Literal)
  closing_clauses = only_if closes ((record { positive = true; boolean = fresh } ∷ []) ∷ [])

  -- The prefix of the k variables from i on, with the closing boolean. "Blocks keep the order of play".
  unfoldable pub prefix_from : ℕ → ℕ → List Quantified
  prefix_from zero i = only_if closes (record { universal = false; boolean = fresh } ∷ [])
  prefix_from (suc k) i = run (universal i) (suc (base i)) (width i) ++ prefix_from k (suc i)

  -- "Clauses stand in the order at-least-one, then tables .., then the closing one".
  unfoldable pub formula_of : Formula
  formula_of = record { prefix = prefix_from n 0; clauses = (existential_clauses ++ pair_clauses) ++ closing_clauses }
