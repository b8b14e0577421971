-- The writer's tests. It refuses by number alone.
use Rattle.std.specs.Prelude.{ℕ, zero, suc, ◌+◌, ◌*◌, ◌^◌, Bool, true, ◌&&◌, not, List, length, leb, ltb, eqb, Option, None, Some}
use Rattle.mask.specs.Range.{each}
use Rattle.refusal.specs.declared.reason.Reason.TheVariants.{Count, Domain, Rules, Variable, Room, Lent, Triple, Many}
use Rattle.refusal.specs.Chain.{Test, Fine, ◌then◌, need}
use Rattle.rule_set.specs.RuleSet.{is_rule_set}
use Rattle.file_layout.specs.Numbers.{counts_fit, pair_of, constraint_fits, scope_of, ternary_fits}
use Rattle.file_bytes.specs.Bytes.{Handed, domain_in, one_in, two_in, row_handed, from, start_in, count_in, whole_records, length_of}

-- n domains, and 18 numbers a constraint: of lists of these lengths.
unfoldable pub lists_fit : ℕ → ℕ → ℕ → ℕ → Bool
lists_fit n m domains constraints = eqb domains n && eqb constraints (18 * m)

unfoldable pub rules_fit : Option ℕ → Bool
rules_fit None = true
rules_fit (Some k) = is_rule_set k

-- None of the n domains is zero.
unfoldable pub domains_fit : (ℕ → ℕ) → ℕ → Bool
domains_fit domain n = each n (λ i. true) (λ i. not (eqb (domain i) 0))

-- The pair of constraint t as one number, and that of the constraint before constraint t (0 if there is none).
unfoldable pub pair_in : List ℕ → ℕ → ℕ
pair_in constraints t = pair_of (one_in constraints t) (two_in constraints t)

unfoldable pub last_in : List ℕ → ℕ → ℕ
last_in constraints zero = 0
last_in constraints (suc t) = pair_in constraints t

-- 5, 6, 7 for each constraint, by the test that the reader makes of a file: the first k of them.
unfoldable pub constraints_test : (ℕ → ℕ) → ℕ → List ℕ → ℕ → Test
constraints_test domain n constraints zero = Fine
constraints_test domain n constraints (suc k) =
    constraints_test domain n constraints k
    then constraint_fits domain n (last_in constraints k) (one_in constraints k) (two_in constraints k) (row_handed constraints k)

-- The three variables of record q as one number, and of the record before record q (0 if there is none).
unfoldable pub scope_in : List ℕ → ℕ → ℕ
scope_in xs q = let p = start_in xs q in scope_of (from xs p 0) (from xs p 1) (from xs p 2)

unfoldable pub last_scope_in : List ℕ → ℕ → ℕ
last_scope_in xs zero = 0
last_scope_in xs (suc q) = scope_in xs q

-- 27, 26 for each three-way constraint, by the test that the reader makes of a file: the first k of them.
unfoldable pub ternaries_test : (ℕ → ℕ) → ℕ → List ℕ → ℕ → Test
ternaries_test domain n xs zero = Fine
ternaries_test domain n xs (suc k) =
    ternaries_test domain n xs k
    then need (leb (n + k + 1) 32) Many
    then need (ternary_fits domain n (last_scope_in xs k) (from xs (start_in xs k))) Triple

-- What is tested of lists of the right lengths: 8, 11, 4 to 7 record by record, 27 and 26 record by record, 12.
unfoldable pub rest_test : Handed → ℕ → Test
rest_test h room =
    need (rules_fit h.rules) Rules
    then need (ltb h.universal (2 ^ h.n)) Variable
    then need (domains_fit (domain_in h.domains) h.n) Domain
    then constraints_test (domain_in h.domains) h.n h.constraints h.m
    then ternaries_test (domain_in h.domains) h.n h.ternaries (count_in h.ternaries)
    then need (leb (length_of h) room) Room

-- All tests in their order: 3, 13, and the others.
unfoldable pub write_test : Handed → ℕ → Test
write_test h room =
    need (counts_fit h.n h.m) Count
    then need (lists_fit h.n h.m (length h.domains) (length h.constraints) && whole_records h.ternaries) Lent
    then rest_test h room
