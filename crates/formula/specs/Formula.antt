-- A quantified boolean formula, and its judge (document 02, card 1).
use Rattle.std.specs.Prelude.{Bool, true, false, cond, not, ◌&&◌, ◌||◌, List, [], ◌∷◌, ℕ, eqb}

-- A boolean, or its negation.
pub record Literal : Type 0 where
  pub positive : Bool
  pub boolean : ℕ

-- A boolean of the prefix with its quantifier.
pub record Quantified : Type 0 where
  pub universal : Bool
  pub boolean : ℕ

-- The prefix, outermost first; clauses, each a list of literals.
pub record Formula : Type 0 where
  pub prefix : List Quantified
  pub clauses : List (List Literal)

-- A list where b holds, none where it does not.
unfoldable pub only_if : {A : Type 0} → Bool → List A → List A
only_if true xs = xs
only_if false xs = []

-- An assignment, and one with boolean v given the value x.
abbrev pub Assignment : Type 0
Assignment = ℕ → Bool

unfoldable pub assign : Assignment → ℕ → Bool → Assignment
assign s v x w = cond (eqb w v) x (s w)

-- Under an assignment: a literal, a clause, all clauses.
unfoldable pub literal_holds : Assignment → Literal → Bool
literal_holds s l = cond l.positive (s l.boolean) (not (s l.boolean))

unfoldable pub clause_holds : Assignment → List Literal → Bool
clause_holds s [] = false
clause_holds s (l ∷ ls) = literal_holds s l || clause_holds s ls

unfoldable pub all_hold : Assignment → List (List Literal) → Bool
all_hold s [] = true
all_hold s (c ∷ cs) = clause_holds s c && all_hold s cs

-- "Beside it goes a small judge of such formulas, which goes through the boolean prefix one variable at a time and calls itself for the rest."
unfoldable pub judged : List (List Literal) → List Quantified → Assignment → Bool
judged cs [] s = all_hold s cs
judged cs (q ∷ qs) s =
    let no = judged cs qs (assign s q.boolean false) in
    let yes = judged cs qs (assign s q.boolean true) in
    cond q.universal (no && yes) (no || yes)

-- Every boolean of the prefix is given a value, so those at the start do not matter.
unfoldable pub judge_formula : Formula → Bool
judge_formula F = judged F.clauses F.prefix (λ v. false)
