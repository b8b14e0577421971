-- What judging and marking tell before any play, and the text of an accepted file.
use Prim.Native.Nat.{ℕ, ◌+◌, ◌≤◌, ◌<◌}
use mathlib.Core.Path.{◌≡◌, refl, sym, ap, ap₂, subst, ◌∙◌}
use mathlib.Core.Bool.{Bool, true, false, cond}
use mathlib.Core.List.{List, [], ◌∷◌, ◌++◌}
use native.Mathlib.Omega.{arith}
use lib.Dec.{T, eqb}
use lib.ListN.{get_or, length, drop}
use lib.Seq.{take_all}
use borrow.Author.Tests.{le-leb, lt-ltb}
use Rattle.mask.specs.Mask.{bit}
use Rattle.mask.proofs.Logic.{holds}
use Rattle.std.specs.Prelude.{Result, Ok, Err}
use Rattle.std.specs.Result.{result_unwrap_or, ResultUnwrapsOrElse}
use Rattle.refusal.specs.declared.reason.Fault.{Fault}
use Rattle.refusal.specs.declared.reason.Refusal.{Refusal}
use Rattle.refusal.specs.declared.reason.Refusal.TheVariants.{InFile, InCall}
use Rattle.refusal.specs.Chain.{Test, Fine}
use Rattle.refusal.specs.Told.{Told, replied, refused, refused_at}
use Rattle.refusal.specs.Replied.{replied_for}
use Rattle.refusal.proofs.Chain.{then_ok, need_ok}
use Rattle.rule_set.specs.RuleSet.{is_rule_set, greatest_set}
use Rattle.file_reader.specs.declared.Head.{Head}
use Rattle.file_records.specs.Records.{verdict_of}
use Rattle.rule_set.proofs.RuleSetLaws.{set_most}
use Rattle.file_reader.specs.Used.{rules_used}
use Rattle.file_reader.proofs.Accepted.{Shows, accepted, universal-shown}
use Rattle.file_reader.proofs.UsedLaws.{used_set}
use Rattle.game.specs.Problem.{Problem}
use Rattle.game.specs.Ternary.{TernaryProblem, ternary_verdict, ternary_winning}
use Rattle.theory.proofs.TurnLists.{legal_in}
use Rattle.file_decoder.specs.FileProblem.{problem_of, ternary_of}
use Rattle.file_decoder.proofs.FileLaws.{ternary_most}
use Rattle.file_decoder.proofs.ReadLaws.{read_refused, read_fine}
use Rattle.position.specs.declared.Position.{Position}
use Rattle.position.specs.Position.{shown, plays_of, fits_in}
use Rattle.position.proofs.Fitting.{legal-fits}
use Rattle.search_run.specs.Run.{held_room}
use Rattle.judging.specs.Tests.{position_test, room_for, judge_test}
use Rattle.judging.proofs.TestLaws.{room_held}
use Rattle.judging.specs.Judging.{told, judge_reply, judge_told}
use Rattle.marking.specs.declared.Marks.{Marks}
use Rattle.marking.specs.Marking.{mark_test, mark_reply, mark_told}
use Rattle.marking.specs.Marking.{told as toldMarks}
use Rattle.report_text.specs.Text.{reply_text, fault_text}
use Rattle.reporting.specs.Reporting.{problem_text, report_of, Prints, ReportsAccepted}

-- ---- before any play the tests are fine

module _ (J : TernaryProblem) (set : ℕ) (small : J.binary.n + J.ternary ≤ 32) (rules : set ≤ greatest_set) where
  abbrev own : Problem
  own = J.binary

  fresh-fits : T (fits_in (shown 0 []) own.n own.domain)
  fresh-fits =
      legal-fits own own.n own.domain [] 0 refl (sym (take_all own.n own.domain (omega (arith, own.sized))))
      (legal_in own [] (omega arith) (λ j h. absurd (omega arith))) (omega arith)

  fresh-position : position_test own.n own.domain (shown 0 []) set ≡ Fine
  unfolding position_test is_rule_set
  fresh-position = then_ok _ _ (need_ok _ _ (le-leb set greatest_set rules)) (need_ok _ _ (holds fresh-fits))

  fresh_judge : judge_test own.n own.domain (shown 0 []) set (room_for J) held_room ≡ Fine
  unfolding judge_test
  fresh_judge = then_ok _ _ fresh-position (room_held J small)

  fresh_mark : 0 < own.n → mark_test own.n own.domain (shown 0 []) set (room_for J) held_room ≡ Fine
  unfolding mark_test shown
  fresh_mark h = then_ok _ _ fresh-position (then_ok _ _ (need_ok _ _ (lt-ltb 0 own.n h)) (room_held J small))

-- ---- what is told then

-- The answers by what they tell.
says_one : Told → Bool
says_one (replied []) = false
says_one (replied (x ∷ xs)) = eqb x 1
says_one (refused e) = false
says_one (refused_at e p) = false

won_says : (r : Result Bool Refusal) → result_unwrap_or r false ≡ says_one (told r)
unfolding says_one
won_says (Ok true) = refl
won_says (Ok false) = refl
won_says (Err (InFile f)) = refl
won_says (Err (InCall e)) = refl

one_says : (b : Bool) → says_one (replied (cond b 1 0 ∷ [])) ≡ b
unfolding says_one
one_says true = refl
one_says false = refl

masks_in : Told → Marks
masks_in (replied []) = record { winning = 0; domain = 0 }
masks_in (replied (w ∷ [])) = record { winning = 0; domain = 0 }
masks_in (replied (w ∷ d ∷ xs)) = record { winning = w; domain = d }
masks_in (refused e) = record { winning = 0; domain = 0 }
masks_in (refused_at e p) = record { winning = 0; domain = 0 }

marks_in : (r : Result Marks Refusal) (m : Marks) → ResultUnwrapsOrElse r (λ z. (z.winning ≡ 0) × (z.domain ≡ 0)) m → m ≡ masks_in (toldMarks r)
unfolding masks_in
marks_in (Ok x) m d = d
marks_in (Err (InFile f)) m d = ap₂ (λ w x. record { winning = w; domain = x }) d.0 d.1
marks_in (Err (InCall e)) m d = ap₂ (λ w x. record { winning = w; domain = x }) d.0 d.1

module _ (f : List ℕ) (fine : verdict_of f ≡ Fine) (p : Position) (set words : ℕ) (fresh : p ≡ shown 0 []) (long : words ≡ held_room) (rules : set ≤ greatest_set) where
  abbrev P : Problem
  P = problem_of f fine

  abbrev J : TernaryProblem
  J = ternary_of f fine

  some : 0 < P.n
  unfolding problem_of
  some = (accepted f fine).head.counts.some

  pub won-first : (r : Result Bool Refusal) → told r ≡ judge_told f p set words → result_unwrap_or r false ≡ ternary_verdict J []
  unfolding judge_told judge_reply replied_for plays_of shown ternary_of
  won-first r e =
      won_says r
      ∙ ap says_one
      (e
      ∙ read_fine f _ _ fine
      ∙ rw (fresh, long) (ap (λ (t : Test). replied_for t (cond (ternary_verdict J []) 1 0 ∷ [])) (fresh_judge J set (ternary_most f fine) rules)))
      ∙ one_says (ternary_verdict J [])

  pub marks_first : (r : Result Marks Refusal) (m : Marks) → ResultUnwrapsOrElse r (λ z. (z.winning ≡ 0) × (z.domain ≡ 0)) m → toldMarks r ≡ mark_told f p set words → m ≡ record { winning = ternary_winning J []; domain = get_or J.binary.domain 0 0 }
  unfolding mark_told mark_reply replied_for plays_of shown masks_in ternary_of
  marks_first r m d e =
      let t : toldMarks r ≡ replied (ternary_winning J [] ∷ get_or P.domain 0 0 ∷ []) =
      e
      ∙ read_fine f _ _ fine
      ∙ rw (fresh, long) (ap (λ (t : Test). replied_for t (ternary_winning J [] ∷ get_or P.domain 0 0 ∷ [])) (fresh_mark J set (ternary_most f fine) rules some)) in
      marks_in r m d ∙ ap masks_in t

-- ---- the texts

-- A text that is another's.
pub holds_as : {l l' : List ℕ} {r : ℕ} (text other : List ℕ) → text ≡ other → r ≡ length text → l' ≡ text ++ drop (length text) l → Prints other l r l'
holds_as {l} {l'} {r} text other e a b = subst (λ (t : List ℕ). Prints t l r l') e (record { ends = a; bytes = b })

pub reply_same : (n m : ℕ) {set set' : ℕ} {won won' universal universal' : Bool} {d d' w w' : ℕ} → set ≡ set' → won ≡ won' → universal ≡ universal' → d ≡ d' → w ≡ w'
    → reply_text n m set won 0 universal d w ≡ reply_text n m set' won' 0 universal' d' w'
reply_same n m s e u g h = rw (s, e, u, g, h)

-- The text of an accepted file by the reading's numbers.
accepted_text : (f : List ℕ) (h : Head) (s : Shows f h)
    → reply_text h.n h.m (rules_used h.rules) (ternary_verdict (ternary_of f s.fine) []) 0 (bit h.universal 0) (get_or (ternary_of f s.fine).binary.domain 0 0) (ternary_winning (ternary_of f s.fine) []) ≡ report_of f
unfolding report_of problem_text ternary_of problem_of
accepted_text f h s =
    rw (s.set, s.variables, s.constraints, s.bits, universal-shown f 0 (accepted f s.fine).head.counts.some) (sym (read_fine f _ _ s.fine))

pub accepted_holds : {f l l' : List ℕ} {r : ℕ} (h : Head) → Shows f h → ReportsAccepted f h.n h.m (rules_used h.rules) (bit h.universal 0) l r l' → Prints (report_of f) l r l'
accepted_holds {f} {l} {l'} {r} h s o =
    let k : rules_used h.rules ≤ greatest_set = set_most _ (rw s.set (used_set f s.fine)) in
    subst (λ (t : List ℕ). Prints t l r l') (accepted_text f h s) (o s.fine k)

-- The text of a refused one.
pub refused-text : (f : List ℕ) (e : Fault) → verdict_of f ≡ Err e → fault_text e ≡ report_of f
unfolding report_of
refused-text f e q = sym (read_refused f _ _ e q)
