-- Which files are accepted, record by record in the order of the file: "In a file, the earliest record decides; within it Short for
-- the mark, Mark, Short for the body, then 3, 8, 4, 5, 6, 7 as they apply." Document 02, card 7: "26 Triple .. tested where 5 to 7 are; 27 Many .. before 26". The
-- place is the record's first byte.
use Rattle.std.specs.Prelude.{ℕ, zero, suc, ◌+◌, ◌*◌, true, ◌||◌, not, List, length, leb, eqb}
use Rattle.refusal.specs.declared.reason.Reason.TheVariants.{Count, Domain, Rules, Tail, Triple, Many}
use Rattle.refusal.specs.Reason.{◌at◌}
use Rattle.refusal.specs.Chain.{Verdict, Fine, ◌then◌, need, only, placed}
use Rattle.rule_set.specs.RuleSet.{is_rule_set}
use Rattle.file_layout.specs.Layout.{byte, word, marked, opened, QP, VE, VA, CT, EN, n_of, m_of, has_rules, variables_at, domain_at, one_at, two_at, row_at, pair_at, constraints_at, after_constraints, number_at, body_at, ternary_at, t_of, end_at}
use Rattle.file_layout.specs.Numbers.{counts_fit, constraint_fits, scope_of, ternary_fits}

-- `QP`.
unfoldable pub qp_test : List ℕ → Verdict
qp_test f = opened f 0 (marked f 0 QP) 3 then need (counts_fit (n_of f) (m_of f)) (Count at 0)

-- `RS`, where it stands.
unfoldable pub rs_test : List ℕ → Verdict
rs_test f = only (has_rules f) (opened f 5 true 1 then need (is_rule_set (byte f 7)) (Rules at 5))

-- `VE` or `VA` at p, and the first k of them from b.
unfoldable pub variable_test : List ℕ → ℕ → Verdict
variable_test f p = opened f p (marked f p VE || marked f p VA) 2 then need (not (eqb (word f (p + 2)) 0)) (Domain at p)

unfoldable pub variables_test : List ℕ → ℕ → ℕ → Verdict
variables_test f b zero = Fine
variables_test f b (suc k) = variables_test f b k then variable_test f (b + 4 * k)

-- `CT` at p, behind a constraint of the pair last, and the first k of them from q.
unfoldable pub constraint_test : List ℕ → ℕ → ℕ → ℕ → ℕ → Verdict
constraint_test f b n last p =
    opened f p (marked f p CT) 34 then placed p (constraint_fits (domain_at f b) n last (one_at f p) (two_at f p) (row_at f p))

unfoldable pub last_pair : List ℕ → ℕ → ℕ → ℕ
last_pair f q zero = 0
last_pair f q (suc k) = pair_at f (q + 36 * k)

unfoldable pub constraints_test : List ℕ → ℕ → ℕ → ℕ → ℕ → Verdict
constraints_test f b n q zero = Fine
constraints_test f b n q (suc k) = constraints_test f b n q k then constraint_test f b n (last_pair f q k) (q + 36 * k)

-- `TT` at p, record k of those behind the constraints of a file of n variables, behind a record of the three variables last: 27 where "the sum above 32",
-- "before 26".
unfoldable pub ternary_test : List ℕ → ℕ → ℕ → ℕ → ℕ → ℕ → Verdict
ternary_test f b n last k p =
    opened f p true (body_at f p)
    then need (leb (n + k + 1) 32) (Many at p)
    then need (ternary_fits (domain_at f b) n last (number_at f p)) (Triple at p)

unfoldable pub scope_at : List ℕ → ℕ → ℕ
scope_at f p = scope_of (number_at f p 0) (number_at f p 1) (number_at f p 2)

unfoldable pub last_scope : List ℕ → ℕ → ℕ → ℕ
last_scope f q zero = 0
last_scope f q (suc k) = scope_at f (ternary_at f q k)

-- The first k of them from q.
unfoldable pub ternaries_test : List ℕ → ℕ → ℕ → ℕ → ℕ → Verdict
ternaries_test f b n q zero = Fine
ternaries_test f b n q (suc k) = ternaries_test f b n q k then ternary_test f b n (last_scope f q k) k (ternary_at f q k)

-- `EN` at p, and nothing behind it: Tail at the first byte too many.
unfoldable pub en_test : List ℕ → ℕ → Verdict
en_test f p = opened f p (marked f p EN) 0 then need (leb (length f) (p + 2)) (Tail at (p + 2))

-- The records behind `QP` and `RS`.
unfoldable pub rest_test : List ℕ → Verdict
rest_test f =
    variables_test f (variables_at f) (n_of f)
    then constraints_test f (variables_at f) (n_of f) (constraints_at f) (m_of f)
    then ternaries_test f (variables_at f) (n_of f) (after_constraints f) (t_of f)
    then en_test f (end_at f)

-- The whole file.
unfoldable pub verdict_of : List ℕ → Verdict
verdict_of f = qp_test f then rs_test f then rest_test f
