-- Document 01's own lines.
use mathlib.Core.Path.{◌≡◌, refl}
use mathlib.Core.Bool.{true}
use mathlib.Core.List.{[], ◌∷◌, ◌++◌}
use Rattle.mask.specs.Mask.{bit}
use Rattle.buffer.specs.Stored.{joined, together}
use Rattle.buffer.specs.Decimal.{digit, spelled, decimal}
use Rattle.report_text.specs.Text.{number_line, verdict_text, side_of, mark_of, answer_line, next_line, option_line, option_text, options_text, head_text, reply_text, refused_text}

-- "choices 2", "tables 1", "rules 3", "answer yes", "next 0 day", "option 0 good", "option 1 good", each with a line end.
g1_text :
    reply_text 2 1 3 true 0 true 3 3
    ≡ (99 ∷ 104 ∷ 111 ∷ 105 ∷ 99 ∷ 101 ∷ 115 ∷ 32 ∷ 50 ∷ 10 ∷ [])
    ++ (116 ∷ 97 ∷ 98 ∷ 108 ∷ 101 ∷ 115 ∷ 32 ∷ 49 ∷ 10 ∷ [])
    ++ (114 ∷ 117 ∷ 108 ∷ 101 ∷ 115 ∷ 32 ∷ 51 ∷ 10 ∷ [])
    ++ (97 ∷ 110 ∷ 115 ∷ 119 ∷ 101 ∷ 114 ∷ 32 ∷ 121 ∷ 101 ∷ 115 ∷ 10 ∷ [])
    ++ (110 ∷ 101 ∷ 120 ∷ 116 ∷ 32 ∷ 48 ∷ 32 ∷ 100 ∷ 97 ∷ 121 ∷ 10 ∷ [])
    ++ (111 ∷ 112 ∷ 116 ∷ 105 ∷ 111 ∷ 110 ∷ 32 ∷ 48 ∷ 32 ∷ 103 ∷ 111 ∷ 111 ∷ 100 ∷ 10 ∷ [])
    ++ (111 ∷ 112 ∷ 116 ∷ 105 ∷ 111 ∷ 110 ∷ 32 ∷ 49 ∷ 32 ∷ 103 ∷ 111 ∷ 111 ∷ 100 ∷ 10 ∷ [])
unfolding together reply_text head_text number_line answer_line verdict_text next_line side_of options_text joined option_text option_line mark_of bit decimal spelled digit
g1_text = refl

-- "refused 2 at 5" and "refused 9 at 17994".
refused-text :
    (refused_text 2 5 ≡ 114 ∷ 101 ∷ 102 ∷ 117 ∷ 115 ∷ 101 ∷ 100 ∷ 32 ∷ 50 ∷ 32 ∷ 97 ∷ 116 ∷ 32 ∷ 53 ∷ 10 ∷ [])
    × (refused_text 9 17994 ≡ 114 ∷ 101 ∷ 102 ∷ 117 ∷ 115 ∷ 101 ∷ 100 ∷ 32 ∷ 57 ∷ 32 ∷ 97 ∷ 116 ∷ 32 ∷ 49 ∷ 55 ∷ 57 ∷ 57 ∷ 52 ∷ 10 ∷ [])
unfolding together refused_text decimal spelled digit
refused-text = (refl, refl)
