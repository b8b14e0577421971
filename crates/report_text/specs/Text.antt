-- What the judging program prints, in ASCII, line by line.
use Rattle.std.specs.Prelude.{ℕ, Bool, cond, List, [], ◌∷◌}
use Rattle.mask.specs.Mask.{bit}
use Rattle.refusal.specs.declared.reason.Fault.{Fault}
use Rattle.refusal.specs.Reason.{number_of}
use Rattle.buffer.specs.Stored.{joined, together}
use Rattle.buffer.specs.Decimal.{decimal}
use Rattle.report_text.specs.declared.Report.{Report}

-- "choices "
abbrev pub choices_label : List ℕ
choices_label = 99 ∷ 104 ∷ 111 ∷ 105 ∷ 99 ∷ 101 ∷ 115 ∷ 32 ∷ []

-- "tables "
abbrev pub tables_label : List ℕ
tables_label = 116 ∷ 97 ∷ 98 ∷ 108 ∷ 101 ∷ 115 ∷ 32 ∷ []

-- "rules "
abbrev pub rules_label : List ℕ
rules_label = 114 ∷ 117 ∷ 108 ∷ 101 ∷ 115 ∷ 32 ∷ []

-- "answer "
abbrev pub answer_label : List ℕ
answer_label = 97 ∷ 110 ∷ 115 ∷ 119 ∷ 101 ∷ 114 ∷ 32 ∷ []

-- "yes"
abbrev pub yes : List ℕ
yes = 121 ∷ 101 ∷ 115 ∷ []

-- "no"
abbrev pub no : List ℕ
no = 110 ∷ 111 ∷ []

-- "next "
abbrev pub next_label : List ℕ
next_label = 110 ∷ 101 ∷ 120 ∷ 116 ∷ 32 ∷ []

-- "day"
abbrev pub day : List ℕ
day = 100 ∷ 97 ∷ 121 ∷ []

-- "shift"
abbrev pub shift : List ℕ
shift = 115 ∷ 104 ∷ 105 ∷ 102 ∷ 116 ∷ []

-- "option "
abbrev pub option_label : List ℕ
option_label = 111 ∷ 112 ∷ 116 ∷ 105 ∷ 111 ∷ 110 ∷ 32 ∷ []

-- "good"
abbrev pub good : List ℕ
good = 103 ∷ 111 ∷ 111 ∷ 100 ∷ []

-- "bad"
abbrev pub bad : List ℕ
bad = 98 ∷ 97 ∷ 100 ∷ []

-- "refused "
abbrev pub refused_label : List ℕ
refused_label = 114 ∷ 101 ∷ 102 ∷ 117 ∷ 115 ∷ 101 ∷ 100 ∷ 32 ∷ []

-- " at "
abbrev pub at_label : List ℕ
at_label = 32 ∷ 97 ∷ 116 ∷ 32 ∷ []

-- A blank.
abbrev pub space : List ℕ
space = 32 ∷ []

-- The end of a line.
abbrev pub line_end : List ℕ
line_end = 10 ∷ []

-- A label and a number, on a line.
unfoldable pub number_line : List ℕ → ℕ → List ℕ
number_line label x = together (label ∷ decimal x ∷ line_end ∷ [])

unfoldable pub verdict_text : Bool → List ℕ
verdict_text won = cond won yes no

unfoldable pub side_of : Bool → List ℕ
side_of universal = cond universal day shift

unfoldable pub mark_of : Bool → List ℕ
mark_of winning = cond winning good bad

unfoldable pub answer_line : Bool → List ℕ
answer_line won = together (answer_label ∷ verdict_text won ∷ line_end ∷ [])

unfoldable pub next_line : ℕ → Bool → List ℕ
next_line next universal = together (next_label ∷ decimal next ∷ space ∷ side_of universal ∷ line_end ∷ [])

unfoldable pub option_line : ℕ → Bool → List ℕ
option_line a winning = together (option_label ∷ decimal a ∷ space ∷ mark_of winning ∷ line_end ∷ [])

-- The line of value a, where the domain holds it.
unfoldable pub option_text : ℕ → ℕ → ℕ → List ℕ
option_text domain winning a = cond (bit domain a) (option_line a (bit winning a)) []

-- The lines of the values below k, ascending.
unfoldable pub options_text : ℕ → ℕ → ℕ → List ℕ
options_text domain winning = joined (option_text domain winning)

-- The numbers of the problem and of the set used.
unfoldable pub head_text : ℕ → ℕ → ℕ → List ℕ
head_text n m set = together (number_line choices_label n ∷ number_line tables_label m ∷ number_line rules_label set ∷ [])

-- The whole text for an accepted file.
unfoldable pub reply_text : ℕ → ℕ → ℕ → Bool → ℕ → Bool → ℕ → ℕ → List ℕ
reply_text n m set won next universal domain winning =
    together (head_text n m set ∷ answer_line won ∷ next_line next universal ∷ options_text domain winning 16 ∷ [])

unfoldable pub text_of : Report → List ℕ
text_of r = reply_text r.n r.m r.set r.won r.next r.universal r.domain r.winning

-- The one line for a refused file.
unfoldable pub refused_text : ℕ → ℕ → List ℕ
refused_text number place = together (refused_label ∷ decimal number ∷ at_label ∷ decimal place ∷ line_end ∷ [])

unfoldable pub fault_text : Fault → List ℕ
fault_text e = refused_text (number_of e.reason) e.place
