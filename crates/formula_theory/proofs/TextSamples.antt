-- Samples computed: their texts are those of a separately written program, each is judged, and each text read back.
use mathlib.Core.Path.{◌≡◌, refl}
use mathlib.Core.Bool.{true, false, cond, ◌&&◌, ◌||◌}
use mathlib.Core.List.{[], ◌∷◌}
use lib.Dec.{eqb}
use Rattle.mask.specs.Mask.{bit}
use Rattle.mask.specs.Range.{count, first}
use Rattle.game.specs.Problem.{Problem}
use Rattle.game.specs.Lists.{domains}
use Rattle.theory.proofs.Small.{mk_problem}
use Rattle.buffer.specs.Decimal.{digit, spelled, decimal}
use Rattle.buffer.specs.Stored.{joined, together}
use Rattle.formula.specs.Formula.{only_if, assign, literal_holds, clause_holds, all_hold, judged, judge_formula}
use Rattle.formula.specs.Encoding.{bits_for, width_for, ways_for, run, size, place, width, base, boolean_of, ways, stands, denial, at_least_one, existential_clauses, clash, clash_clauses, constraint_clauses, pair_clauses, closes, fresh, closing_clauses, prefix_from, formula_of}
use Rattle.formula.specs.Text.{header_text, letter, in_line, prefix_text, literal_text, clause_text, clauses_text, text_of, is_digit, digits_at, value_to, number_at, after, negative, number_from, literals_at, end_at, is_letter, quantified, blocks_at, blocks_end, clauses_at, read_text}

-- The last variable is universal: a closing boolean.
--   p cnf 4 4
--   e 1 2 0
--   a 3 0
--   e 4 0
--   1 2 0
--   -1 3 0
--   -2 -3 0
--   4 0
abbrev S0 : Problem
S0 = mk_problem (λ i. bit 2 i) (3 ∷ 3 ∷ []) tt (λ i j. (eqb i 0 && eqb j 1)) (λ i a j b. cond (eqb i 0 && eqb j 1 && eqb a 0) (bit 2 b) (cond (eqb i 0 && eqb j 1 && eqb a 1) (bit 1 b) (true)))

text_0 : text_of (formula_of S0) ≡ 112 ∷ 32 ∷ 99 ∷ 110 ∷ 102 ∷ 32 ∷ 52 ∷ 32 ∷ 52 ∷ 10 ∷ 101 ∷ 32 ∷ 49 ∷ 32 ∷ 50 ∷ 32 ∷ 48 ∷ 10 ∷ 97 ∷ 32 ∷ 51 ∷ 32 ∷ 48 ∷ 10 ∷ 101 ∷ 32 ∷ 52 ∷ 32 ∷ 48 ∷ 10 ∷ 49 ∷ 32 ∷ 50 ∷ 32 ∷ 48 ∷ 10 ∷ 45 ∷ 49 ∷ 32 ∷ 51 ∷ 32 ∷ 48 ∷ 10 ∷ 45 ∷ 50 ∷ 32 ∷ 45 ∷ 51 ∷ 32 ∷ 48 ∷ 10 ∷ 52 ∷ 32 ∷ 48 ∷ 10 ∷ []
unfolding joined only_if count first bit domains bits_for width_for ways_for run size place width base boolean_of ways stands denial at_least_one existential_clauses clash clash_clauses constraint_clauses pair_clauses closes fresh closing_clauses prefix_from formula_of digit spelled decimal together header_text letter in_line prefix_text literal_text clause_text clauses_text text_of
text_0 = refl

judged_0 : judge_formula (formula_of S0) ≡ false
unfolding joined only_if count first bit domains bits_for width_for ways_for run size place width base boolean_of ways stands denial at_least_one existential_clauses clash clash_clauses constraint_clauses pair_clauses closes fresh closing_clauses prefix_from formula_of digit spelled decimal together header_text letter in_line prefix_text literal_text clause_text clauses_text text_of assign literal_holds clause_holds all_hold judged judge_formula
judged_0 = refl

back_0 : read_text (text_of (formula_of S0)) ≡ formula_of S0
unfolding joined only_if count first bit domains bits_for width_for ways_for run size place width base boolean_of ways stands denial at_least_one existential_clauses clash clash_clauses constraint_clauses pair_clauses closes fresh closing_clauses prefix_from formula_of digit spelled decimal together header_text letter in_line prefix_text literal_text clause_text clauses_text text_of is_digit digits_at value_to number_at after negative number_from literals_at end_at is_letter quantified blocks_at blocks_end clauses_at read_text
back_0 = refl

-- Universal neighbours; five values with eight codes, one value with two; a closing boolean.
--   p cnf 9 16
--   a 1 2 3 0
--   e 4 0
--   a 5 6 7 8 0
--   e 9 0
--   4 0
--   1 -2 3 -5 6 0
--   -1 -2 -3 -5 6 0
--   1 -2 3 5 -6 0
--   -1 -2 -3 5 -6 0
--   1 2 3 7 -8 0
--   -1 2 -3 7 -8 0
--   -1 2 3 7 8 0
--   -1 2 3 -7 -8 0
--   1 -2 -3 7 8 0
--   1 -2 -3 -7 -8 0
--   1 -2 3 -7 8 0
--   -1 -2 -3 -7 8 0
--   -5 -6 7 8 0
--   -5 -6 -7 -8 0
--   9 0
abbrev S1 : Problem
S1 = mk_problem (λ i. bit 13 i) (50196 ∷ 4096 ∷ 9744 ∷ 12352 ∷ []) tt (λ i j. (eqb i 0 && eqb j 2) || (eqb i 0 && eqb j 3) || (eqb i 1 && eqb j 2) || (eqb i 2 && eqb j 3)) (λ i a j b. cond (eqb i 0 && eqb j 2 && eqb a 2) (bit 9744 b) (cond (eqb i 0 && eqb j 2 && eqb a 4) (bit 9744 b) (cond (eqb i 0 && eqb j 2 && eqb a 10) (bit 8208 b) (cond (eqb i 0 && eqb j 2 && eqb a 14) (bit 9744 b) (cond (eqb i 0 && eqb j 2 && eqb a 15) (bit 9744 b) (cond (eqb i 0 && eqb j 3 && eqb a 2) (bit 4160 b) (cond (eqb i 0 && eqb j 3 && eqb a 4) (bit 12288 b) (cond (eqb i 0 && eqb j 3 && eqb a 10) (bit 8256 b) (cond (eqb i 0 && eqb j 3 && eqb a 14) (bit 12352 b) (cond (eqb i 0 && eqb j 3 && eqb a 15) (bit 12352 b) (cond (eqb i 1 && eqb j 2 && eqb a 12) (bit 9744 b) (cond (eqb i 2 && eqb j 3 && eqb a 4) (bit 12352 b) (cond (eqb i 2 && eqb j 3 && eqb a 9) (bit 12352 b) (cond (eqb i 2 && eqb j 3 && eqb a 10) (bit 12352 b) (cond (eqb i 2 && eqb j 3 && eqb a 13) (bit 12288 b) (true))))))))))))))))

text_1 : text_of (formula_of S1) ≡ 112 ∷ 32 ∷ 99 ∷ 110 ∷ 102 ∷ 32 ∷ 57 ∷ 32 ∷ 49 ∷ 54 ∷ 10 ∷ 97 ∷ 32 ∷ 49 ∷ 32 ∷ 50 ∷ 32 ∷ 51 ∷ 32 ∷ 48 ∷ 10 ∷ 101 ∷ 32 ∷ 52 ∷ 32 ∷ 48 ∷ 10 ∷ 97 ∷ 32 ∷ 53 ∷ 32 ∷ 54 ∷ 32 ∷ 55 ∷ 32 ∷ 56 ∷ 32 ∷ 48 ∷ 10 ∷ 101 ∷ 32 ∷ 57 ∷ 32 ∷ 48 ∷ 10 ∷ 52 ∷ 32 ∷ 48 ∷ 10 ∷ 49 ∷ 32 ∷ 45 ∷ 50 ∷ 32 ∷ 51 ∷ 32 ∷ 45 ∷ 53 ∷ 32 ∷ 54 ∷ 32 ∷ 48 ∷ 10 ∷ 45 ∷ 49 ∷ 32 ∷ 45 ∷ 50 ∷ 32 ∷ 45 ∷ 51 ∷ 32 ∷ 45 ∷ 53 ∷ 32 ∷ 54 ∷ 32 ∷ 48 ∷ 10 ∷ 49 ∷ 32 ∷ 45 ∷ 50 ∷ 32 ∷ 51 ∷ 32 ∷ 53 ∷ 32 ∷ 45 ∷ 54 ∷ 32 ∷ 48 ∷ 10 ∷ 45 ∷ 49 ∷ 32 ∷ 45 ∷ 50 ∷ 32 ∷ 45 ∷ 51 ∷ 32 ∷ 53 ∷ 32 ∷ 45 ∷ 54 ∷ 32 ∷ 48 ∷ 10 ∷ 49 ∷ 32 ∷ 50 ∷ 32 ∷ 51 ∷ 32 ∷ 55 ∷ 32 ∷ 45 ∷ 56 ∷ 32 ∷ 48 ∷ 10 ∷ 45 ∷ 49 ∷ 32 ∷ 50 ∷ 32 ∷ 45 ∷ 51 ∷ 32 ∷ 55 ∷ 32 ∷ 45 ∷ 56 ∷ 32 ∷ 48 ∷ 10 ∷ 45 ∷ 49 ∷ 32 ∷ 50 ∷ 32 ∷ 51 ∷ 32 ∷ 55 ∷ 32 ∷ 56 ∷ 32 ∷ 48 ∷ 10 ∷ 45 ∷ 49 ∷ 32 ∷ 50 ∷ 32 ∷ 51 ∷ 32 ∷ 45 ∷ 55 ∷ 32 ∷ 45 ∷ 56 ∷ 32 ∷ 48 ∷ 10 ∷ 49 ∷ 32 ∷ 45 ∷ 50 ∷ 32 ∷ 45 ∷ 51 ∷ 32 ∷ 55 ∷ 32 ∷ 56 ∷ 32 ∷ 48 ∷ 10 ∷ 49 ∷ 32 ∷ 45 ∷ 50 ∷ 32 ∷ 45 ∷ 51 ∷ 32 ∷ 45 ∷ 55 ∷ 32 ∷ 45 ∷ 56 ∷ 32 ∷ 48 ∷ 10 ∷ 49 ∷ 32 ∷ 45 ∷ 50 ∷ 32 ∷ 51 ∷ 32 ∷ 45 ∷ 55 ∷ 32 ∷ 56 ∷ 32 ∷ 48 ∷ 10 ∷ 45 ∷ 49 ∷ 32 ∷ 45 ∷ 50 ∷ 32 ∷ 45 ∷ 51 ∷ 32 ∷ 45 ∷ 55 ∷ 32 ∷ 56 ∷ 32 ∷ 48 ∷ 10 ∷ 45 ∷ 53 ∷ 32 ∷ 45 ∷ 54 ∷ 32 ∷ 55 ∷ 32 ∷ 56 ∷ 32 ∷ 48 ∷ 10 ∷ 45 ∷ 53 ∷ 32 ∷ 45 ∷ 54 ∷ 32 ∷ 45 ∷ 55 ∷ 32 ∷ 45 ∷ 56 ∷ 32 ∷ 48 ∷ 10 ∷ 57 ∷ 32 ∷ 48 ∷ 10 ∷ []
unfolding joined only_if count first bit domains bits_for width_for ways_for run size place width base boolean_of ways stands denial at_least_one existential_clauses clash clash_clauses constraint_clauses pair_clauses closes fresh closing_clauses prefix_from formula_of digit spelled decimal together header_text letter in_line prefix_text literal_text clause_text clauses_text text_of
text_1 = refl

judged_1 : judge_formula (formula_of S1) ≡ false
unfolding joined only_if count first bit domains bits_for width_for ways_for run size place width base boolean_of ways stands denial at_least_one existential_clauses clash clash_clauses constraint_clauses pair_clauses closes fresh closing_clauses prefix_from formula_of digit spelled decimal together header_text letter in_line prefix_text literal_text clause_text clauses_text text_of assign literal_holds clause_holds all_hold judged judge_formula
judged_1 = refl

back_1 : read_text (text_of (formula_of S1)) ≡ formula_of S1
unfolding joined only_if count first bit domains bits_for width_for ways_for run size place width base boolean_of ways stands denial at_least_one existential_clauses clash clash_clauses constraint_clauses pair_clauses closes fresh closing_clauses prefix_from formula_of digit spelled decimal together header_text letter in_line prefix_text literal_text clause_text clauses_text text_of is_digit digits_at value_to number_at after negative number_from literals_at end_at is_letter quantified blocks_at blocks_end clauses_at read_text
back_1 = refl

-- Existential neighbours, the last one existential.
--   p cnf 9 4
--   a 1 2 0
--   e 3 4 5 6 7 8 9 0
--   3 4 5 6 7 0
--   8 9 0
--   -3 -9 0
--   -4 -8 0
abbrev S2 : Problem
S2 = mk_problem (λ i. bit 1 i) (16520 ∷ 33817 ∷ 136 ∷ []) tt (λ i j. (eqb i 1 && eqb j 2)) (λ i a j b. cond (eqb i 1 && eqb j 2 && eqb a 0) (bit 8 b) (cond (eqb i 1 && eqb j 2 && eqb a 3) (bit 128 b) (cond (eqb i 1 && eqb j 2 && eqb a 4) (bit 136 b) (cond (eqb i 1 && eqb j 2 && eqb a 10) (bit 136 b) (cond (eqb i 1 && eqb j 2 && eqb a 15) (bit 136 b) (true))))))

text_2 : text_of (formula_of S2) ≡ 112 ∷ 32 ∷ 99 ∷ 110 ∷ 102 ∷ 32 ∷ 57 ∷ 32 ∷ 52 ∷ 10 ∷ 97 ∷ 32 ∷ 49 ∷ 32 ∷ 50 ∷ 32 ∷ 48 ∷ 10 ∷ 101 ∷ 32 ∷ 51 ∷ 32 ∷ 52 ∷ 32 ∷ 53 ∷ 32 ∷ 54 ∷ 32 ∷ 55 ∷ 32 ∷ 56 ∷ 32 ∷ 57 ∷ 32 ∷ 48 ∷ 10 ∷ 51 ∷ 32 ∷ 52 ∷ 32 ∷ 53 ∷ 32 ∷ 54 ∷ 32 ∷ 55 ∷ 32 ∷ 48 ∷ 10 ∷ 56 ∷ 32 ∷ 57 ∷ 32 ∷ 48 ∷ 10 ∷ 45 ∷ 51 ∷ 32 ∷ 45 ∷ 57 ∷ 32 ∷ 48 ∷ 10 ∷ 45 ∷ 52 ∷ 32 ∷ 45 ∷ 56 ∷ 32 ∷ 48 ∷ 10 ∷ []
unfolding joined only_if count first bit domains bits_for width_for ways_for run size place width base boolean_of ways stands denial at_least_one existential_clauses clash clash_clauses constraint_clauses pair_clauses closes fresh closing_clauses prefix_from formula_of digit spelled decimal together header_text letter in_line prefix_text literal_text clause_text clauses_text text_of
text_2 = refl

judged_2 : judge_formula (formula_of S2) ≡ true
unfolding joined only_if count first bit domains bits_for width_for ways_for run size place width base boolean_of ways stands denial at_least_one existential_clauses clash clash_clauses constraint_clauses pair_clauses closes fresh closing_clauses prefix_from formula_of digit spelled decimal together header_text letter in_line prefix_text literal_text clause_text clauses_text text_of assign literal_holds clause_holds all_hold judged judge_formula
judged_2 = refl

back_2 : read_text (text_of (formula_of S2)) ≡ formula_of S2
unfolding joined only_if count first bit domains bits_for width_for ways_for run size place width base boolean_of ways stands denial at_least_one existential_clauses clash clash_clauses constraint_clauses pair_clauses closes fresh closing_clauses prefix_from formula_of digit spelled decimal together header_text letter in_line prefix_text literal_text clause_text clauses_text text_of is_digit digits_at value_to number_at after negative number_from literals_at end_at is_letter quantified blocks_at blocks_end clauses_at read_text
back_2 = refl
