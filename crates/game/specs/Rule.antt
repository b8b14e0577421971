-- Rule sets, and rules on a list of masks one after another.
use Rattle.std.specs.Prelude.{Bool, false, cond, List, ℕ}
unfoldable pub use Rattle.rule_set.specs.RuleSet.{uses}

-- What a rule replies: whether it found a loss, and the list that it leaves.
pub record Ruled : Type 0 where
  pub loss : Bool
  pub list : List ℕ

abbrev pub ListRule : Type 0
ListRule = List ℕ → Ruled

-- No rule.
unfoldable pub unruled : ListRule
unruled l = record { loss = false; list = l }

-- A rule where b says so.
unfoldable pub if_so : Bool → ListRule → ListRule
if_so b r l = let o = r l in cond b o (unruled l)

-- One rule after another: "a loss ends the turn".
unfoldable pub and_next : ListRule → ListRule → ListRule
and_next r s l = let o = r l in let q = s o.list in cond o.loss o q
