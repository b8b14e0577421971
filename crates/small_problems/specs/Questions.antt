-- What can be asked of a file and a position, and what is told: by the very definitions of the entries' contracts.
use Rattle.std.specs.Prelude.{ℕ, List, [], ◌∷◌, length}
use Rattle.refusal.specs.Told.{Told, replied}
use Rattle.file_reader.specs.Reading.{header_of}
use Rattle.file_lookup.specs.Lookup.{look_up}
use Rattle.file_lookup.specs.Ternary.{look_up_ternary}
use Rattle.game.specs.Calls.{Call}
use Rattle.rule_entries.specs.Alone.{arc_told, arc_left, pure_told, interchangeable_told}
use Rattle.position.specs.declared.Position.{Position}
use Rattle.session.specs.Told.{open_told}
use Rattle.session.specs.History.{call_told}
use Rattle.judging.specs.Judging.{judge_told}
use Rattle.marking.specs.Marking.{mark_told}

pub data Question : Type 0 where
  -- of the file: how many bytes it has; what reading it replies; where the rows of a pair stand, and the body of a three-way constraint
  size : Question
  reading : Question
  looking_up : ℕ → ℕ → Question
  looking_up_ternary : ℕ → Question
  -- of the position: its verdict; the marks of its next variable; the open values; a further call
  judging : Question
  marking : Question
  opening : Question
  calling : Call → Question
  -- of a lent list: what rule 1 replies and what it leaves; rules 4 and 5 at a variable
  arc : List ℕ → Question
  arc_leaving : List ℕ → Question
  pure_at : ℕ → List ℕ → Question
  interchangeable_at : ℕ → List ℕ → Question

-- The file f and the position p, under the rule set of this number and with room for so many words.
unfoldable pub answer : List ℕ → (set words : ℕ) → Position → Question → Told
answer f set words p size = replied (length f ∷ [])
answer f set words p reading = header_of f
answer f set words p (looking_up i j) = look_up f i j
answer f set words p (looking_up_ternary k) = look_up_ternary f k
answer f set words p judging = judge_told f p set words
answer f set words p marking = mark_told f p set words
answer f set words p opening = open_told f p
answer f set words p (calling c) = call_told f p c
answer f set words p (arc l) = arc_told f l
answer f set words p (arc_leaving l) = replied (arc_left f l)
answer f set words p (pure_at x l) = pure_told f l x
answer f set words p (interchangeable_at x l) = interchangeable_told f l x
