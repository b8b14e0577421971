-- The text of a list of groups: `choices 4`, `groups 2`, then a line for each group ascending, `group 0 choices 0 2`.
use Rattle.std.specs.Prelude.{ℕ, cond, List, [], ◌∷◌, eqb, get_or}
use Rattle.buffer.specs.Stored.{joined, together}
use Rattle.buffer.specs.Decimal.{decimal}
use Rattle.report_text.specs.Text.{choices_label, line_end, number_line}
use Rattle.group_labels.specs.declared.Groups.{Groups}

-- "groups "
abbrev pub groups_label : List ℕ
groups_label = 103 ∷ 114 ∷ 111 ∷ 117 ∷ 112 ∷ 115 ∷ 32 ∷ []

-- "group "
abbrev pub group_label : List ℕ
group_label = 103 ∷ 114 ∷ 111 ∷ 117 ∷ 112 ∷ 32 ∷ []

-- " choices"
abbrev pub members_label : List ℕ
members_label = 32 ∷ 99 ∷ 104 ∷ 111 ∷ 105 ∷ 99 ∷ 101 ∷ 115 ∷ []

-- A blank and variable i, if it is in group g.
unfoldable pub member_text : List ℕ → ℕ → ℕ → List ℕ
member_text group g i = cond (eqb (get_or group i 0) g) (32 ∷ decimal i) []

-- The line of group g among n variables.
unfoldable pub group_line : List ℕ → ℕ → ℕ → List ℕ
group_line group n g = together (group_label ∷ decimal g ∷ members_label ∷ joined (member_text group g) n ∷ line_end ∷ [])

-- The whole text for n variables.
unfoldable pub groups_text : ℕ → Groups → List ℕ
groups_text n r = together (number_line choices_label n ∷ number_line groups_label r.count ∷ joined (group_line r.group n) r.count ∷ [])
