-- Small problems with three-way constraints, computed, and plausible and wrong readings, each with a value that tells it apart.
use mathlib.Core.Path.{◌≡◌, refl}
use mathlib.Core.Bool.{Bool, true, false, cond, ◌&&◌}
use mathlib.Core.List.{List, [], ◌∷◌}
use Prim.Native.Nat.{ℕ, ◌+◌, ◌-◌, ◌≤◌}
use native.Mathlib.Omega.{arith}
use lib.Dec.{eqb}
use Rattle.mask.specs.Range.{some, each}
use Rattle.mask.specs.Mask.{bit, mask_of}
use Rattle.game.specs.Game.{Play, put, turn, satisfied, won, wins}
use Rattle.game.specs.Lists.{domains, list_of, wins_over}
use Rattle.game.specs.Position.{legal, narrowed, position}
use Rattle.game.specs.Winning.{verdict, winning_values}
use Rattle.game.specs.Ternary.{TernaryProblem, permits, meets_all, ternary_verdict, ternary_winning}
use Rattle.theory.proofs.Small.{mk_problem}
use Rattle.ternary_theory.specs.Expanded.{hidden, touches, agrees, by_kind, compatible_with, constrained_with, universal_with, domain_with, expanded}
use Rattle.ternary_theory.proofs.Expansion.{expanded_verdict, expanded_winning}
use Rattle.ternary_theory.proofs.NoTernary.{ternary_none, ternary_none_winning}

-- An existential, a universal, an existential variable of {0, 1} each, no pair; the good triples are (0, 0, 1) and (0, 1, 0).
abbrev parity : TernaryProblem
parity = record {
  binary = mk_problem (λ i. eqb i 1) (3 ∷ 3 ∷ 3 ∷ []) tt (λ i j. false) (λ i a j b. true);
  ternary = 1;
  one = λ r. 0;
  two = λ r. 1;
  three = λ r. 2;
  size = λ r. 2;
  first = λ r q. 0;
  second = λ r q. q;
  third = λ r q. 1 - q;
  order = λ r h. (omega arith, omega arith, omega arith);
  filled = λ r h. (omega arith, omega arith);
}

-- Won; 0 is good, 1 bad. After 0 both values are good; after 0, 0 the value 1 is good and 0 bad. Played out, 0, 0, 1 is won and 0, 0, 0 lost.
parity_won : (ternary_verdict parity [] ≡ true) × (ternary_winning parity [] ≡ 1) × (ternary_winning parity (0 ∷ []) ≡ 3)
    × (ternary_winning parity (0 ∷ 0 ∷ []) ≡ 2) × (ternary_verdict parity (0 ∷ 0 ∷ 1 ∷ []) ≡ true) × (ternary_verdict parity (0 ∷ 0 ∷ 0 ∷ []) ≡ false)
unfolding some each bit mask_of put turn satisfied won domains narrowed position permits meets_all ternary_verdict ternary_winning
parity_won = (refl, refl, refl, refl, refl, refl)

-- The expanded problem says the same. It has four variables, the last of the two places of the triples, joined to each of the three.
parity_expanded : (verdict (expanded parity) [] ≡ true) × (winning_values (expanded parity) [] ≡ 1) × (winning_values (expanded parity) (0 ∷ []) ≡ 3)
    × (winning_values (expanded parity) (0 ∷ 0 ∷ []) ≡ 2) × (verdict (expanded parity) (0 ∷ 0 ∷ 1 ∷ []) ≡ true)
    × (verdict (expanded parity) (0 ∷ 0 ∷ 0 ∷ []) ≡ false)
unfolding some each bit mask_of put turn satisfied won wins domains list_of wins_over narrowed position verdict winning_values hidden touches agrees by_kind compatible_with constrained_with universal_with domain_with expanded
parity_expanded = (refl, refl, refl, refl, refl, refl)

parity_parts : (domain_with parity ≡ 3 ∷ 3 ∷ 3 ∷ 3 ∷ []) × (mask_of 4 (constrained_with parity 3) ≡ 7) × (mask_of 4 (universal_with parity) ≡ 2)
unfolding bit mask_of list_of hidden touches by_kind constrained_with universal_with domain_with
parity_parts = (refl, refl, refl)

-- The theorems at it: their hypotheses are met.
parity_theorems : (verdict (expanded parity) [] ≡ ternary_verdict parity [])
    × (winning_values (expanded parity) (0 ∷ 0 ∷ []) ≡ ternary_winning parity (0 ∷ 0 ∷ []))
unfolding each bit domains legal
parity_theorems = (expanded_verdict parity [] tt, expanded_winning parity (0 ∷ 0 ∷ []) tt (omega arith))

-- ---- a constraint that is ignored

-- Five existential variables of {0, 1}; constraint r joins 0, 1 and 2 + r. The first two have (0, 0, 0) and (1, 0, 0), the third has (1, 0, 0) alone.
-- The first k of the three.
abbrev fan : (k : ℕ) → k ≤ 3 → TernaryProblem
fan k most = record {
  binary = mk_problem (λ i. false) (3 ∷ 3 ∷ 3 ∷ 3 ∷ 3 ∷ []) tt (λ i j. false) (λ i a j b. true);
  ternary = k;
  one = λ r. 0;
  two = λ r. 1;
  three = λ r. 2 + r;
  size = λ r. cond (eqb r 2) 1 2;
  first = λ r q. cond (eqb r 2) 1 q;
  second = λ r q. 0;
  third = λ r q. 0;
  order = λ r h. (omega arith, omega arith, omega arith);
  filled = λ r h. sizes (eqb r 2);
}
  where
    sizes : (b : Bool) → (1 ≤ cond b 1 2) × (cond b 1 2 ≤ 16)
    sizes true = (omega arith, omega arith)
    sizes false = (omega arith, omega arith)

-- Only 1 is good; without the third constraint 0 is good too.
third_counts : (ternary_winning (fan 3 (omega arith)) [] ≡ 2) × (ternary_winning (fan 2 (omega arith)) [] ≡ 3)
unfolding some each bit mask_of put turn satisfied won domains narrowed position permits meets_all ternary_verdict ternary_winning
third_counts = (refl, refl)

-- Without any it is the problem of binary constraints, where all is good.
none_counts : (ternary_verdict (fan 0 (omega arith)) [] ≡ verdict (fan 0 (omega arith)).binary [])
    × (ternary_winning (fan 0 (omega arith)) [] ≡ winning_values (fan 0 (omega arith)).binary []) × (ternary_winning (fan 0 (omega arith)) (0 ∷ []) ≡ 3)
unfolding some each bit mask_of put turn satisfied won domains narrowed position permits meets_all ternary_verdict ternary_winning
none_counts = (ternary_none (fan 0 (omega arith)) refl [], ternary_none_winning (fan 0 (omega arith)) refl [], refl)

-- ---- a variable of a constraint that is ignored

-- The game of the problem J with another test of the play at the end.
unfoldable judged_by : TernaryProblem → (Play → Bool) → List ℕ → Bool
judged_by J Q p = won J.binary.universal Q (domains (position J.binary p)) J.binary.n 0 (λ j. 0)

-- Only two of the three values are looked at: the first two, the outer two, the last two.
unfoldable without_third : Play → Bool
without_third p = some 2 (λ q. true) (λ q. eqb (p 0) (parity.first 0 q) && eqb (p 1) (parity.second 0 q))

unfoldable without_second : Play → Bool
without_second p = some 2 (λ q. true) (λ q. eqb (p 0) (parity.first 0 q) && eqb (p 2) (parity.third 0 q))

unfoldable without_first : Play → Bool
without_first p = some 2 (λ q. true) (λ q. eqb (p 1) (parity.second 0 q) && eqb (p 2) (parity.third 0 q))

-- 0, 0, 0 and 1, 0, 1 are lost; each of the three tests lets one of them win.
two_of_three : (ternary_verdict parity (0 ∷ 0 ∷ 0 ∷ []) ≡ false) × (ternary_verdict parity (1 ∷ 0 ∷ 1 ∷ []) ≡ false)
    × (judged_by parity without_third (0 ∷ 0 ∷ 0 ∷ []) ≡ true) × (judged_by parity without_second (0 ∷ 0 ∷ 0 ∷ []) ≡ true)
    × (judged_by parity without_first (1 ∷ 0 ∷ 1 ∷ []) ≡ true)
unfolding some each bit put turn satisfied won domains narrowed position permits meets_all ternary_verdict judged_by without_third without_second without_first
two_of_three = (refl, refl, refl, refl, refl)

-- ---- triples read in another order of the variables

-- Three existential variables of {0, 1, 2}, and one triple.
abbrev single : ℕ → ℕ → ℕ → TernaryProblem
single a b c = record {
  binary = mk_problem (λ i. false) (7 ∷ 7 ∷ 7 ∷ []) tt (λ i j. false) (λ i a j b. true);
  ternary = 1;
  one = λ r. 0;
  two = λ r. 1;
  three = λ r. 2;
  size = λ r. 1;
  first = λ r q. a;
  second = λ r q. b;
  third = λ r q. c;
  order = λ r h. (omega arith, omega arith, omega arith);
  filled = λ r h. (omega arith, omega arith);
}

-- The triple (0, 1, 2) is won by 0, then 1, then 2; in each other order of its values these plays lose.
in_order : (ternary_winning (single 0 1 2) [] ≡ 1) × (ternary_winning (single 0 1 2) (0 ∷ []) ≡ 2) × (ternary_winning (single 0 1 2) (0 ∷ 1 ∷ []) ≡ 4)
    × (ternary_verdict (single 0 1 2) (0 ∷ 1 ∷ 2 ∷ []) ≡ true)
    × (ternary_verdict (single 0 2 1) (0 ∷ 1 ∷ 2 ∷ []) ≡ false) × (ternary_verdict (single 1 0 2) (0 ∷ 1 ∷ 2 ∷ []) ≡ false)
    × (ternary_verdict (single 1 2 0) (0 ∷ 1 ∷ 2 ∷ []) ≡ false) × (ternary_verdict (single 2 0 1) (0 ∷ 1 ∷ 2 ∷ []) ≡ false)
    × (ternary_verdict (single 2 1 0) (0 ∷ 1 ∷ 2 ∷ []) ≡ false)
unfolding some each bit mask_of put turn satisfied won domains narrowed position permits meets_all ternary_verdict ternary_winning
in_order = (refl, refl, refl, refl, refl, refl, refl, refl, refl)
