-- What the entries reply to an accepted file: a rule set above 127 is 8, more plays than variables and a depth above the plays are 23, however
-- large the number; every other position that fits is judged and, unless played out, marked. So the room held suffices for every file, and 12
-- never comes.
use mathlib.Core.Path.{◌≡◌, refl, ap, ◌∙◌}
use mathlib.Core.Bool.{Bool, false, cond}
use mathlib.Core.List.{List, [], ◌∷◌}
use Prim.Native.Nat.{ℕ, ◌≤◌, ◌<◌}
use native.Mathlib.Omega.{arith}
use lib.Dec.{T}
use lib.ListN.{get_or}
use borrow.Author.Tests.{le-leb, lt-leb, lt-ltb}
use Rattle.mask.proofs.Logic.{holds}
use Rattle.std.specs.Prelude.{Err}
use Rattle.refusal.specs.declared.reason.Reason.TheVariants.{Rules, Misfit}
use Rattle.refusal.specs.Chain.{Test, Fine, need}
use Rattle.refusal.specs.Told.{fault_told}
use Rattle.refusal.specs.Replied.{replied_for}
use Rattle.refusal.proofs.Chain.{go, stop, then_ok, need_ok}
use Rattle.rule_set.specs.RuleSet.{is_rule_set, greatest_set}
use Rattle.file_layout.specs.Layout.{n_of}
use Rattle.file_records.specs.Records.{verdict_of}
use Rattle.game.specs.Problem.{Problem}
use Rattle.game.specs.Ternary.{TernaryProblem, ternary_verdict, ternary_winning}
use Rattle.file_decoder.specs.FileProblem.{problem_of, ternary_of}
use Rattle.file_decoder.proofs.FileLaws.{problem_size, ternary_most}
use Rattle.file_decoder.proofs.ReadLaws.{read_fine}
use Rattle.position.specs.declared.Position.{Position}
use Rattle.position.specs.Position.{plays_of, fits_in}
use Rattle.position.proofs.Fitting.{plays_above, depth_above}
use Rattle.search_run.specs.Run.{held_room}
use Rattle.judging.specs.Tests.{position_test, room_for, judge_test}
use Rattle.judging.proofs.TestLaws.{room_held}
use Rattle.judging.specs.Judging.{judge_reply, judge_told}
use Rattle.marking.specs.Marking.{mark_test, mark_reply, mark_told}
use Rattle.host_replies.specs.declared.games.Judgement.{Judgement}
use Rattle.host_replies.specs.declared.games.Marks.{Marks}
use Rattle.host_replies.specs.Replies.{kind_of, number_of, place_of, value_of, judgement_of, marks_of}

-- The tests on a position and a rule set.
module _ (n : ℕ) (masks : List ℕ) (p : Position) (set : ℕ) where
  rules-refused : greatest_set < set → position_test n masks p set ≡ Err Rules
  unfolding position_test is_rule_set need
  rules-refused h = stop _ _ Rules (ap (λ (b : Bool). need b Rules) (lt-leb set greatest_set h))

  misfit_refused : set ≤ greatest_set → fits_in p n masks ≡ false → position_test n masks p set ≡ Err Misfit
  unfolding position_test is_rule_set need
  misfit_refused h e = go _ _ (need_ok _ _ (le-leb set greatest_set h)) ∙ ap (λ (b : Bool). need b Misfit) e

  position_taken : set ≤ greatest_set → T (fits_in p n masks) → position_test n masks p set ≡ Fine
  unfolding position_test is_rule_set
  position_taken h t = then_ok _ _ (need_ok _ _ (le-leb set greatest_set h)) (need_ok _ _ (holds t))

module _ (f : List ℕ) (fine : verdict_of f ≡ Fine) (p : Position) (set : ℕ) where
  abbrev pub P : Problem
  P = problem_of f fine

  -- With its three-way constraints.
  abbrev pub J : TernaryProblem
  J = ternary_of f fine

  -- The replies of the entries.
  abbrev pub judge_replied : Judgement
  judge_replied = judgement_of (judge_told f p set held_room)

  abbrev pub mark_replied : Marks
  mark_replied = marks_of (mark_told f p set held_room)

  judge_by : (t : Test) → judge_test P.n P.domain p set (room_for J) held_room ≡ t → judge_told f p set held_room ≡ replied_for t (cond (ternary_verdict J (plays_of p)) 1 0 ∷ [])
  unfolding judge_told judge_reply ternary_of
  judge_by t e = read_fine f fault_told _ fine ∙ rw e refl

  mark_by : (t : Test) → mark_test P.n P.domain p set (room_for J) held_room ≡ t → mark_told f p set held_room ≡ replied_for t (ternary_winning J (plays_of p) ∷ get_or P.domain p.plays 0 ∷ [])
  unfolding mark_told mark_reply ternary_of
  mark_by t e = read_fine f fault_told _ fine ∙ rw e refl

  -- A rule set above 127.
  pub wide_rules : greatest_set < set → (judge_replied ≡ record { kind = 1; number = 8; place = 0; won = 0 }) × (mark_replied ≡ record { kind = 1; number = 8; place = 0; winning = 0; domain = 0 })
  unfolding judge_test mark_test replied_for judgement_of marks_of kind_of number_of place_of value_of
  wide_rules h =
      let r = rules-refused P.n P.domain p set h in
      (ap judgement_of (judge_by (Err Rules) (stop _ _ Rules r)), ap marks_of (mark_by (Err Rules) (stop _ _ Rules r)))

  -- A position that does not fit: more plays than variables, or a depth above the plays.
  abbrev pub MisfitReplied : Type 0
  MisfitReplied = (judge_replied ≡ record { kind = 1; number = 23; place = 0; won = 0 }) × (mark_replied ≡ record { kind = 1; number = 23; place = 0; winning = 0; domain = 0 })

  pub misfits : set ≤ greatest_set → fits_in p P.n P.domain ≡ false → MisfitReplied
  unfolding judge_test mark_test replied_for judgement_of marks_of kind_of number_of place_of value_of
  misfits h e =
      let r = misfit_refused P.n P.domain p set h e in
      (ap judgement_of (judge_by (Err Misfit) (stop _ _ Misfit r)), ap marks_of (mark_by (Err Misfit) (stop _ _ Misfit r)))

  pub many_plays : set ≤ greatest_set → n_of f < p.plays → MisfitReplied
  many_plays h k = misfits h (plays_above p P.n P.domain (omega (arith, problem_size f fine)))

  pub many_held : set ≤ greatest_set → p.plays < p.depth → MisfitReplied
  many_held h k = misfits h (depth_above p P.n P.domain k)

  -- Every position that fits is judged.
  pub judges : set ≤ greatest_set → T (fits_in p P.n P.domain) → judge_replied ≡ record { kind = 0; number = 0; place = 0; won = cond (ternary_verdict J (plays_of p)) 1 0 }
  unfolding judge_test replied_for judgement_of kind_of number_of place_of value_of
  judges h t = ap judgement_of (judge_by Fine (then_ok _ _ (position_taken P.n P.domain p set h t) (room_held J (ternary_most f fine))))

  -- And it is marked, where a variable is left to play.
  pub marks : set ≤ greatest_set → T (fits_in p P.n P.domain) → p.plays < n_of f
      → mark_replied ≡ record { kind = 0; number = 0; place = 0; winning = ternary_winning J (plays_of p); domain = get_or P.domain p.plays 0 }
  unfolding mark_test replied_for marks_of kind_of number_of place_of value_of
  marks h t k =
      ap marks_of
      (mark_by Fine (then_ok _ _ (position_taken P.n P.domain p set h t) (then_ok _ _ (need_ok _ _ (lt-ltb p.plays P.n (omega (arith, problem_size f fine)))) (room_held J (ternary_most f fine)))))
