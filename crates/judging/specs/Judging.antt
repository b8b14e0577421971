-- What judging tells of a file, a position, a rule set's number and a room, and what the room holds afterwards.
use Rattle.std.specs.Prelude.{ℕ, Bool, cond, List, [], ◌∷◌, length, Result}
use Rattle.refusal.specs.declared.reason.Refusal.{Refusal}
use Rattle.refusal.specs.Told.{Told, fault_told, refusal_told, told_by}
use Rattle.refusal.specs.Replied.{replied_for, list_for}
use Rattle.game.specs.Ternary.{TernaryProblem, ternary_verdict}
use Rattle.file_decoder.specs.Read.{read_ternary}
use Rattle.position.specs.declared.Position.{Position}
use Rattle.position.specs.Position.{plays_of}
use Rattle.search_words.specs.TurnRoom.{zeroed}
use Rattle.judging.specs.Tests.{room_for, judge_test}

-- The answer in document 01's numbers: 1 for won, 0 for lost.
abbrev pub told : Result Bool Refusal → Told
told = told_by (λ (won : Bool). cond won 1 0 ∷ []) refusal_told

-- Over a problem J: the verdict of the game with its three-way constraints, under every set. Plays, positions and "all played" "speak of the original
-- choices". "After a finished call these words are zero and any beyond are unchanged"; "A refused call leaves position, list, room and buffer with
-- their old contents."
module _ (J : TernaryProblem) (p : Position) (set : ℕ) where
  open J.binary use {n, domain}

  unfoldable pub judge_reply : ℕ → Told
  judge_reply words = replied_for (judge_test n domain p set (room_for J) words) (cond (ternary_verdict J (plays_of p)) 1 0 ∷ [])

  unfoldable pub judge_room : List ℕ → List ℕ
  judge_room room = list_for (judge_test n domain p set (room_for J) (length room)) (zeroed 0 (room_for J) room) room

-- Over a file f.
module _ (f : List ℕ) (p : Position) (set : ℕ) where
  unfoldable pub judge_told : ℕ → Told
  judge_told words = read_ternary f fault_told (λ J. judge_reply J p set words)

  unfoldable pub judge_left : List ℕ → List ℕ
  judge_left room = read_ternary f (λ e. room) (λ J. judge_room J p set room)
