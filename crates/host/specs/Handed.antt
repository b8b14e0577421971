-- The rule set that a C caller hands to the writer: none, or a number, however large.
use Rattle.std.specs.Prelude.{ℕ, cond, eqb, ltb, Option, None, Some}

unfoldable pub set_handed : ℕ → ℕ → Option ℕ
set_handed given rules = cond (eqb given 0) None (Some rules)

-- The same in a byte: 255, which is no rule set, stands for what no byte holds.
unfoldable pub byte_handed : ℕ → ℕ → Option ℕ
byte_handed given rules = cond (eqb given 0) None (Some (cond (ltb rules 256) rules 255))
