-- Demand 3, and the calls of a history as bytes.
use Rattle.std.specs.Prelude.{◌≡◌, cond, List, [], ◌∷◌, ℕ, ◌≤◌, ◌-◌, eqb, ltb, leb, get_or, length}
use Rattle.refusal.specs.Chain.{Fine}
use Rattle.refusal.specs.Told.{Told, replied, refused}
use Rattle.rule_set.specs.RuleSet.{greatest_set}
use Rattle.file_records.specs.Records.{verdict_of}
use Rattle.game.specs.Ternary.{TernaryProblem, ternary_winning}
use Rattle.game.specs.Calls.{Call, play, take_back, lock, unlock, PlainList, after_call, standing}
use Rattle.file_decoder.specs.FileProblem.{ternary_of}
use Rattle.judging.specs.Tests.{room_for}
use Rattle.position.specs.declared.Position.{Position}
use Rattle.position.specs.Position.{shown}
use Rattle.session.specs.History.{call_told, step, list_told, list_opened}
use Rattle.history.specs.declared.call.Call.{Call as CodeCall}
use Rattle.history.specs.declared.call.Call.TheVariants.{Play, TakeBack, Lock, Unlock}

-- A call in a byte: 255 is a take-back, 254 a lock, 192 to 253 an unlock to that less 192, any other number a play of that value.
unfoldable pub call_of : ℕ → Call
call_of b = cond (eqb b 255) take_back (cond (eqb b 254) lock (cond (leb 192 b) (unlock (b - 192)) (play b)))

unfoldable pub calls_of : List ℕ → List Call
calls_of [] = []
calls_of (b ∷ bs) = call_of b ∷ calls_of bs

-- The call that the code's stands for.
unfoldable pub as_call : CodeCall → Call
as_call (Play a) = play a
as_call TakeBack = take_back
as_call Lock = lock
as_call (Unlock k) = unlock k

-- The marks of the game with the plays l: "each value of the next variable's domain winning exactly when the published game is won with it
-- played" after them; "22 Done: marks asked when all are played".
unfoldable pub list_marked : TernaryProblem → List ℕ → Told
list_marked J l = cond (ltb (length l) J.binary.n) (replied (ternary_winning J l ∷ get_or J.binary.domain (length l) 0 ∷ [])) (refused 22)

-- All is as the plain list s has it: the position `at`, its replies `marks` and `opened`, and what the next call tells and leaves.
pub record AsPlain (f : List ℕ) (J : TernaryProblem) (s : PlainList) (set words : ℕ) (at : Position) (marks opened : Told) : Type 0 where
  -- The position shows the plays that stand, and the depth.
  pub shows : at ≡ shown s.depth s.plays
  -- The replies are those of a fresh problem with only these plays, in order; the same marks under every rule set, given the room that a marking takes.
  pub marked : set ≤ greatest_set → room_for J ≤ words → marks ≡ list_marked J s.plays
  pub opens : opened ≡ list_opened J.binary s.plays
  -- The next call, whichever it is, tells what the plain list says; one that is refused leaves the position, the plays and the depth.
  pub tells : (c : Call) → call_told f at c ≡ list_told J.binary s c
  pub stays : (c : Call) (e : ℕ) → call_told f at c ≡ refused e → (step f at c ≡ at) × (after_call J.binary s c ≡ s)

-- Document 00, demand 3, of the position that calls reach and its replies: all is as the plain list has it, which is fed the file and the calls alone.
abbrev pub Demand3 : (f : List ℕ) (fine : verdict_of f ≡ Fine) (calls : List Call) (set words : ℕ) (at : Position) (marks opened : Told) → Type 0
Demand3 f fine calls set words at marks opened =
    let J = ternary_of f fine in
    AsPlain f J (standing J.binary calls) set words at marks opened
