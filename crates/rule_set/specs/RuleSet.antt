-- Document 01: "Named sets PLAIN (0), USUAL (3) and ALL (127) belong to the rule set itself"; "8 Rules: a rule set above 127".
use Rattle.std.specs.Prelude.{ℕ, zero, suc, ◌+◌, Bool, false, cond, [], ◌∷◌, leb, Result}
use Rattle.mask.specs.Mask.{bit}
use Rattle.refusal.specs.declared.reason.Reason.{Reason}
use Rattle.refusal.specs.Told.{Told, replied, refused, reason_told, told_by}
use Rattle.rule_set.specs.declared.RuleSet.{RuleSet}

-- "the rule set, 0 to 127".
abbrev pub greatest_set : ℕ
greatest_set = 127

-- Whether a number is a rule set: of a file, of what the writer is handed, of a call.
unfoldable pub is_rule_set : ℕ → Bool
is_rule_set k = leb k greatest_set

-- A rule set uses rule k, "numbers added into a rule set": rule k is the number 2 ^ (k - 1).
unfoldable pub uses : ℕ → ℕ → Bool
uses set zero = false
uses set (suc k) = bit set k

-- The named sets: none of the rules, arc and forward check, all seven.
abbrev pub plain_set : ℕ
plain_set = 0

abbrev pub usual_set : ℕ
usual_set = 1 + 2

abbrev pub full_set : ℕ
full_set = 1 + 2 + 4 + 8 + 16 + 32 + 64

-- What the constructor tells of a number.
unfoldable pub rule_set_of : ℕ → Told
rule_set_of k = cond (is_rule_set k) (replied (k ∷ [])) (refused 8)

abbrev pub told : Result RuleSet Reason → Told
told = told_by (λ (s : RuleSet). s.bits ∷ []) reason_told
