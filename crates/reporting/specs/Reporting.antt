-- What the judging program prints of the bytes of a file.
use Rattle.std.specs.Prelude.{ℕ, ◌≤◌, ◌≡◌, Bool, List, [], ◌++◌, get_or, length, drop}
use Rattle.refusal.specs.Chain.{Fine}
use Rattle.rule_set.specs.RuleSet.{greatest_set}
use Rattle.file_layout.specs.Layout.{m_of, rules_of}
use Rattle.file_records.specs.Records.{verdict_of}
use Rattle.file_reader.specs.Used.{rules_used}
use Rattle.game.specs.Ternary.{TernaryProblem, ternary_verdict, ternary_winning}
use Rattle.file_decoder.specs.FileProblem.{ternary_of}
use Rattle.file_decoder.specs.Read.{read_ternary}
use Rattle.marking.specs.declared.Marks.{Marks}
use Rattle.report_text.specs.Text.{reply_text, fault_text}

-- The text for a problem with m constraints of two variables, before any play.
unfoldable pub problem_text : TernaryProblem → ℕ → ℕ → List ℕ
problem_text J m set = reply_text J.binary.n m set (ternary_verdict J []) 0 (J.binary.universal 0) (get_or J.binary.domain 0 0) (ternary_winning J [])

-- The text for the bytes f.
unfoldable pub report_of : List ℕ → List ℕ
report_of f = read_ternary f fault_text (λ J. problem_text J (m_of f) (rules_used (rules_of f)))

-- The buffer l becomes l': the text, which ends at r, and behind it what was there.
pub record Prints (text l : List ℕ) (r : ℕ) (l' : List ℕ) : Type 0 where
  pub ends : r ≡ length text
  pub bytes : l' ≡ text ++ drop (length text) l

-- ---- inner functions

-- Of an accepted file, under a rule set: its verdict, the marks of its first variable, its text.
abbrev pub JudgesFirst : List ℕ → ℕ → Bool → Type 0
JudgesFirst f set r = (fine : verdict_of f ≡ Fine) → set ≤ greatest_set → r ≡ ternary_verdict (ternary_of f fine) []

abbrev pub MarksFirst : List ℕ → ℕ → Marks → Type 0
MarksFirst f set r =
    (fine : verdict_of f ≡ Fine) → set ≤ greatest_set
    → (r.winning ≡ ternary_winning (ternary_of f fine) []) × (r.domain ≡ get_or (ternary_of f fine).binary.domain 0 0)

abbrev pub ReportsAccepted : List ℕ → ℕ → ℕ → ℕ → Bool → List ℕ → ℕ → List ℕ → Type 0
ReportsAccepted f n m set universal l r l' =
    (fine : verdict_of f ≡ Fine) → set ≤ greatest_set
    → Prints (reply_text n m set (ternary_verdict (ternary_of f fine) []) 0 universal (get_or (ternary_of f fine).binary.domain 0 0) (ternary_winning (ternary_of f fine) [])) l r l'
