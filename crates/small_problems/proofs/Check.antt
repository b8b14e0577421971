-- A test of a row that computes, and the law that a row holds where the test passes.
use Prim.Native.Nat.{ℕ, zero, suc, ◌≤◌, ◌<◌}
use mathlib.Core.Path.{◌≡◌, refl, ap, ap₂, ◌∙◌}
use mathlib.Core.Bool.{Bool, true, false, ◌&&◌}
use mathlib.Core.List.{List, [], ◌∷◌}
use native.Mathlib.Omega.{arith}
use lib.ListN.{get_or}
use lib.Dec.{T, eqb, eqb→eq, ltb, ltb→lt}
use Rattle.mask.proofs.Logic.{and_out}
use Rattle.std.specs.Prelude.{Ok, Err, is_ok}
use Rattle.refusal.specs.Chain.{Verdict, Fine}
use Rattle.refusal.specs.Told.{Told, replied, refused, refused_at}
use Rattle.file_decoder.specs.FileProblem.{ternary_of}
use Rattle.file_records.specs.Records.{verdict_of}
use Rattle.game.specs.Ternary.{TernaryProblem}
use Rattle.game.specs.Calls.{Call}
use Rattle.rule_set.specs.RuleSet.{greatest_set}
use Rattle.judging.specs.Tests.{room_for}
use Rattle.session.specs.History.{reached_by}
use Rattle.small_problems.specs.Questions.{Question, answer}
use Rattle.small_problems.specs.Table.{Line, ◌gives◌, Stage, after, Row}
use Rattle.small_problems.specs.Claim.{LinesHold, StagesHold, RowHolds, RowsHold}
use Rattle.small_problems.proofs.Once.{read_once, once_is}
use Rattle.small_problems.proofs.Plain.{plainly, answer_plain}

-- The elements of a list are bytes.
unfoldable pub is_bytes : List ℕ → Bool
is_bytes [] = true
is_bytes (b ∷ f) = ltb b 256 && is_bytes f

pub bytes_of : (f : List ℕ) → T (is_bytes f) → (k : ℕ) → get_or f k 0 < 256
unfolding is_bytes
bytes_of [] t k = omega arith
bytes_of (b ∷ f) t zero = ltb→lt b 256 (and_out (ltb b 256) (is_bytes f) t).0
bytes_of (b ∷ f) t (suc k) = bytes_of f (and_out (ltb b 256) (is_bytes f) t).1 k

-- A verdict that the test takes is fine.
pub fine_of : (v : Verdict) → T (is_ok v) → v ≡ Fine
fine_of (Ok u) t = refl
fine_of (Err e) t = elim t [ ]

-- Two lists of numbers, and two replies, are the same. No line names a file's refusal.
unfoldable pub same_numbers : List ℕ → List ℕ → Bool
same_numbers [] [] = true
same_numbers [] (b ∷ m) = false
same_numbers (a ∷ l) [] = false
same_numbers (a ∷ l) (b ∷ m) = eqb a b && same_numbers l m

same_numbers_lem : (l m : List ℕ) → T (same_numbers l m) → l ≡ m
unfolding same_numbers
same_numbers_lem [] [] t = refl
same_numbers_lem [] (b ∷ m) t = elim t [ ]
same_numbers_lem (a ∷ l) [] t = elim t [ ]
same_numbers_lem (a ∷ l) (b ∷ m) t = let h = and_out (eqb a b) (same_numbers l m) t in ap₂ (λ (x : ℕ) (y : List ℕ). x ∷ y) (eqb→eq a b h.0) (same_numbers_lem l m h.1)

unfoldable pub same_told : Told → Told → Bool
same_told (replied l) (replied m) = same_numbers l m
same_told (refused e) (refused d) = eqb e d
same_told (replied l) (refused e) = false
same_told (replied l) (refused_at e p) = false
same_told (refused e) (replied m) = false
same_told (refused e) (refused_at d p) = false
same_told (refused_at e p) t = false

same_told_lem : (a b : Told) → T (same_told a b) → a ≡ b
unfolding same_told
same_told_lem (replied l) (replied m) t = ap replied (same_numbers_lem l m t)
same_told_lem (refused e) (refused d) t = ap refused (eqb→eq e d t)
same_told_lem (replied l) (refused e) t = elim t [ ]
same_told_lem (replied l) (refused_at e p) t = elim t [ ]
same_told_lem (refused e) (replied m) t = elim t [ ]
same_told_lem (refused e) (refused_at d p) t = elim t [ ]
same_told_lem (refused_at e p) b t = elim t [ ]

-- Each line names what is told plainly.
unfoldable pub lines_pass : List ℕ → TernaryProblem → List Call → List Line → Bool
lines_pass f J cs [] = true
lines_pass f J cs ((q gives t) ∷ ls) = same_told (plainly f J cs q) t && lines_pass f J cs ls

unfoldable pub stages_pass : List ℕ → TernaryProblem → List Stage → Bool
stages_pass f J [] = true
stages_pass f J (after cs ls ∷ ss) = lines_pass f J cs ls && stages_pass f J ss

-- b, and then what is tested with it.
unfoldable pub and_then : (b : Bool) → (T b → Bool) → Bool
and_then true k = k tt
and_then false k = false

and_then_lem : (b : Bool) (k : T b → Bool) → T (and_then b k) → (t : T b) × T (k t)
unfolding and_then
and_then_lem true k t = (tt, t)
and_then_lem false k t = elim t [ ]

-- A row passes: its file is of and accepted, and its lines name what is told plainly, in the problem read once.
unfoldable pub passes : Row → Bool
passes r =
    let f = r.file in
    is_bytes f && and_then (is_ok (verdict_of f)) (λ t. stages_pass f (read_once f (fine_of (verdict_of f) t)) r.stages)

unfoldable pub rows_pass : List Row → Bool
rows_pass [] = true
rows_pass (r ∷ rs) = passes r && rows_pass rs

module _ (f : List ℕ) (fine : verdict_of f ≡ Fine) (set words : ℕ) (known : set ≤ greatest_set) (enough : room_for (ternary_of f fine) ≤ words) where
  abbrev J : TernaryProblem
  J = read_once f fine

  line_holds : (cs : List Call) (q : Question) → answer f set words (reached_by f cs) q ≡ plainly f J cs q
  line_holds cs q = answer_plain f set words fine known enough cs q ∙ ap (λ (J : TernaryProblem). plainly f J cs q) (once_is f fine)

  lines_hold : (cs : List Call) (ls : List Line) → T (lines_pass f J cs ls) → LinesHold f set words cs ls
  unfolding lines_pass LinesHold
  lines_hold cs [] t = tt
  lines_hold cs ((q gives r) ∷ ls) t =
      let h = and_out (same_told (plainly f J cs q) r) (lines_pass f J cs ls) t in (line_holds cs q ∙ same_told_lem _ r h.0, lines_hold cs ls h.1)

  stages_hold : (ss : List Stage) → T (stages_pass f J ss) → StagesHold f set words ss
  unfolding stages_pass StagesHold
  stages_hold [] t = tt
  stages_hold (after cs ls ∷ ss) t = let h = and_out (lines_pass f J cs ls) (stages_pass f J ss) t in (lines_hold cs ls h.0, stages_hold ss h.1)

-- A row that passes holds.
pass_holds : (r : Row) → T (passes r) → RowHolds r
unfolding passes
pass_holds r t =
    let f = r.file in
    let h = and_out (is_bytes f) _ t in
    let k = and_then_lem (is_ok (verdict_of f)) _ h.1 in
    record { bytes = bytes_of f h.0; fine = fine_of (verdict_of f) k.0; answered = λ set words known enough. stages_hold f (fine_of (verdict_of f) k.0) set words known enough r.stages k.1 }

pub rows_hold : (rs : List Row) → T (rows_pass rs) → RowsHold rs
unfolding rows_pass RowsHold
rows_hold [] t = tt
rows_hold (r ∷ rs) t = let h = and_out (passes r) (rows_pass rs) t in (pass_holds r h.0, rows_hold rs h.1)
