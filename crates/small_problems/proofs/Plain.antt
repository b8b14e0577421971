-- What the entries tell of an accepted file, in terms of its problem and what stands.
use Prim.Native.Nat.{ℕ, ◌≤◌}
use mathlib.Core.Path.{◌≡◌, refl, ap, ◌∙◌}
use mathlib.Core.Bool.{true, cond}
use mathlib.Core.List.{List, [], ◌∷◌}
use lib.ListN.{length}
use borrow.Author.Tests.{le-leb}
use Rattle.mask.proofs.Logic.{holds}
use Rattle.refusal.specs.Replied.{replied_for}
use Rattle.refusal.specs.Chain.{Fine, ◌then◌, need}
use Rattle.refusal.specs.Told.{Told, replied, fault_told}
use Rattle.rule_set.specs.RuleSet.{greatest_set, is_rule_set}
use Rattle.file_records.specs.Records.{verdict_of}
use Rattle.file_reader.specs.Reading.{header_of}
use Rattle.file_lookup.specs.Lookup.{look_up}
use Rattle.file_lookup.specs.Ternary.{look_up_ternary}
use Rattle.game.specs.Problem.{Problem}
use Rattle.game.specs.Ternary.{TernaryProblem, ternary_verdict}
use Rattle.game.specs.Calls.{Call, standing}
use Rattle.ternary_theory.specs.Expanded.{expanded}
use Rattle.file_decoder.specs.FileProblem.{problem_of, ternary_of, ordinary_of}
use Rattle.file_decoder.specs.Read.{read_by}
use Rattle.rule_entries.specs.Alone.{arc_reply, arc_list, pure_reply, interchangeable_reply, arc_told, arc_left, pure_told, interchangeable_told}
use Rattle.file_decoder.proofs.ReadLaws.{read_fine}
use Rattle.position.specs.Position.{fits_in}
use Rattle.session.specs.History.{reached_by, list_told, list_opened}
use Rattle.session.proofs.HistoryLaws.{reached-fits, reached_plays}
use Rattle.judging.specs.Tests.{position_test, room_for, room_test, judge_test}
use Rattle.judging.specs.Judging.{judge_reply, judge_told}
use Rattle.history.specs.Replay.{list_marked}
use Rattle.history.proofs.Histories.{demand_3}
use Rattle.small_problems.specs.Questions.{Question, size, reading, looking_up, looking_up_ternary, judging, marking, opening, calling, arc, arc_leaving, pure_at, interchangeable_at, answer}

-- Each answer, after the calls cs.
unfoldable pub plainly : List ℕ → TernaryProblem → List Call → Question → Told
plainly f J cs size = replied (length f ∷ [])
plainly f J cs reading = header_of f
plainly f J cs (looking_up i j) = look_up f i j
plainly f J cs (looking_up_ternary k) = look_up_ternary f k
plainly f J cs judging = replied (cond (ternary_verdict J (standing J.binary cs).plays) 1 0 ∷ [])
plainly f J cs marking = list_marked J (standing J.binary cs).plays
plainly f J cs opening = list_opened J.binary (standing J.binary cs).plays
plainly f J cs (calling c) = list_told J.binary (standing J.binary cs) c
plainly f J cs (arc l) = arc_reply (expanded J) l
plainly f J cs (arc_leaving l) = replied (arc_list (expanded J) l)
plainly f J cs (pure_at x l) = pure_reply (expanded J) l x
plainly f J cs (interchangeable_at x l) = interchangeable_reply (expanded J) l x

module _ (f : List ℕ) (set words : ℕ) (fine : verdict_of f ≡ Fine) (known : set ≤ greatest_set) (enough : room_for (ternary_of f fine) ≤ words) where
  abbrev P : Problem
  P = problem_of f fine

  abbrev J : TernaryProblem
  J = ternary_of f fine

  -- A call that reads the file first.
  reads : (reply : verdict_of f ≡ Fine → Told) → read_by f fault_told reply ≡ reply fine
  reads reply = read_fine f fault_told reply fine

  -- In a position that calls reach, judging has nothing to refuse.
  judge_plain : (cs : List Call) → judge_told f (reached_by f cs) set words ≡ replied (cond (ternary_verdict J (standing P cs).plays) 1 0 ∷ [])
  unfolding ternary_of judge_told judge_reply judge_test position_test room_test is_rule_set replied_for need ◌then◌
  judge_plain cs =
      let fits : fits_in (reached_by f cs) P.n P.domain ≡ true = holds (reached-fits f fine cs) in
      reads _
      ∙ rw (le-leb set greatest_set known, fits, le-leb (room_for J) words enough, reached_plays f fine cs)

  pub answer_plain : (cs : List Call) (q : Question) → answer f set words (reached_by f cs) q ≡ plainly f J cs q
  unfolding answer plainly arc_told arc_left pure_told interchangeable_told ordinary_of ternary_of
  answer_plain cs size = refl
  answer_plain cs reading = refl
  answer_plain cs (looking_up i j) = refl
  answer_plain cs (looking_up_ternary k) = refl
  answer_plain cs judging = judge_plain cs
  answer_plain cs marking = (demand_3 f fine cs set words).marked known enough
  answer_plain cs opening = (demand_3 f fine cs set words).opens
  answer_plain cs (calling c) = (demand_3 f fine cs set words).tells c
  answer_plain cs (arc l) = reads _
  answer_plain cs (arc_leaving l) = ap replied (read_fine f (λ e. l) _ fine)
  answer_plain cs (pure_at x l) = reads _
  answer_plain cs (interchangeable_at x l) = reads _
