-- What the entries tell and leave, by the file and by the test.
use Prim.Native.Nat.{ℕ, ◌≤◌, ◌<◌}
use mathlib.Core.Path.{◌≡◌, refl, sym, ap, ◌∙◌}
use mathlib.Core.Bool.{Bool, cond}
use mathlib.Core.List.{List, [], ◌∷◌, ◌++◌}
use lib.Dec.{leb→le}
use lib.ListN.{length, length-append, take, drop}
use lib.Seq.{take_at}
use native.Mathlib.Omega.{arith}
use Rattle.std.specs.Prelude.{Result, Ok, Err}
use Rattle.refusal.specs.declared.reason.Reason.{Reason}
use Rattle.refusal.specs.declared.reason.Fault.{Fault}
use Rattle.refusal.specs.declared.reason.Refusal.{Refusal}
use Rattle.refusal.specs.declared.reason.Refusal.TheVariants.{InFile, InCall}
use Rattle.refusal.specs.Chain.{Verdict, Test, Fine}
use Rattle.refusal.specs.Told.{replied, reason_told, fault_told, refusal_told, told_by}
use Rattle.refusal.specs.Replied.{replied_for, list_for}
use Rattle.refusal.proofs.Chain.{need_fine}
use Rattle.refusal.proofs.RepliedLaws.{reply_refused, reply_told, list_refused, list_left}
use Rattle.mask.proofs.Logic.{true_holds}
use Rattle.game.specs.Problem.{Problem}
use Rattle.game.specs.Winning.{verdict}
use Rattle.buffer.specs.Stored.{stored}
use Rattle.buffer.proofs.StoredLaws.{stored-start}
use Rattle.solver_arrays.specs.declared.arrays.Arrays.{Arrays}
use Rattle.solver_arrays.specs.Arrays.{Poses}
use Rattle.file_reader.specs.Reading.{verdict_of}
use Rattle.file_decoder.specs.FileProblem.{ordinary_of}
use Rattle.ternary_decoder.specs.Decoded.{OrdinaryGiven}
use Rattle.file_decoder.proofs.FileLaws.{ordinary-some, ordinary_most}
use Rattle.file_decoder.proofs.ReadLaws.{read_fine, read_refused}
use Rattle.formula.specs.Formula.{judge_formula}
use Rattle.formula.specs.Encoding.{formula_of}
use Rattle.formula.specs.Text.{read_text}
use Rattle.formula_theory.proofs.FormulaVerdict.{formula_verdict}
use Rattle.formula_theory.proofs.ReadBack.{header_told}
use Rattle.formula_theory.proofs.Printed.{formula_plain, formula_read_back}
use Rattle.formula_theory.proofs.OrderLaws.{formula_ordered}
use Rattle.formula_theory.proofs.PrefixLaws.{booleans_most}
use Rattle.formula_theory.proofs.CountLaws.{clauses_most}
use Rattle.formula_text.specs.Written.{text_for, Measures, Prints}
use Rattle.formula_judge.specs.Judgeable.{Judgeable}
use Rattle.formula_text.specs.declared.Size.{Size}
use Rattle.formula_entries.specs.Told.{length_values, text_test, formula_test, formula_reply, formula_buffer, judge_formula_reply, Writes, formula_told, judge_formula_told, formula_left}

-- ---- over the arrays

module _ (A : Arrays) (buf : List ℕ) (s : Size) (m : Measures A s) (t : Test) (e : t ≡ text_test s.length (length buf)) where
  test_is : (P : Problem) → Poses P A → t ≡ formula_test P (length buf)
  unfolding formula_test
  test_is P p = e ∙ ap (λ (k : ℕ). text_test k (length buf)) (m P p).0

  pub short_writes : {x : Reason} (r : Result ℕ Reason) → t ≡ Err x → r ≡ Err x → Writes A buf buf r
  unfolding formula_reply formula_buffer
  short_writes r q z = λ P p. (ap (told_by length_values reason_told) z ∙ reply_refused _ _ (test_is P p) q, list_refused _ _ _ (test_is P p) q)

  pub long_writes : {u : Unit {0}} (buf' : List ℕ) → t ≡ Ok u → Prints A s.clauses buf buf' → Writes A buf buf' (Ok s.length)
  unfolding formula_reply formula_buffer
  long_writes buf' q w = λ P p. (reply_told _ _ (test_is P p) q (ap length_values (m P p).0), list_left _ _ _ (test_is P p) q (w P p (m P p).1))

-- ---- over the file

module _ (f : List ℕ) (e : Fault) (q : verdict_of f ≡ Err e) where
  pub refused-told : (room : ℕ) → fault_told e ≡ formula_told f room
  unfolding formula_told
  refused-told room = sym (read_refused f _ _ e q)

  pub refused-left : (buf : List ℕ) → buf ≡ formula_left f buf
  unfolding formula_left
  refused-left buf = sym (read_refused f _ _ e q)

module _ (f : List ℕ) (A : Arrays) (g : OrdinaryGiven f A) where
  pub file_writes : (buf buf' : List ℕ) (r : Result ℕ Reason) → Writes A buf buf' r → (told_by length_values reason_told r ≡ formula_told f (length buf)) × (buf' ≡ formula_left f buf)
  unfolding formula_told formula_left
  file_writes buf buf' r w =
      let x = w (ordinary_of f g.fine) g.poses in (x.0 ∙ sym (read_fine f _ _ g.fine), x.1 ∙ sym (read_fine f _ _ g.fine))

-- ---- what is told, taken apart

never : {A : Type 0} → ◌≡◌ {A = ℕ} 0 1 → A
never z = absurd (omega arith)

not_replied : (e : Refusal) (xs : List ℕ) → refusal_told e ≡ replied xs → ⊥
not_replied (InFile x) xs q = never (cc)
not_replied (InCall x) xs q = never (cc)

alike : (e : Refusal) (t : Test) (xs ys : List ℕ) → refusal_told e ≡ replied_for t xs → refusal_told e ≡ replied_for t ys
unfolding replied_for
alike e (Ok u) xs ys q = absurd (not_replied e xs q)
alike e (Err x) xs ys q = q

fine_told : (t : Test) (xs ys : List ℕ) → replied xs ≡ replied_for t ys → (t ≡ Fine) × (xs ≡ ys)
unfolding replied_for
fine_told (Ok u) xs ys q = (refl, cc)
fine_told (Err x) xs ys q = never (cc)

by_file : {A : Type 0} (f : List ℕ) → ((e : Fault) → verdict_of f ≡ Err e → A) → (verdict_of f ≡ Fine → A) → A
by_file {A} f a b = go (verdict_of f) refl
  where
    go : (w : Verdict) → verdict_of f ≡ w → A
    go (Ok u) q = b q
    go (Err e) q = a e q

-- A text of k bytes was written.
pub record Wrote (f : List ℕ) (room k : ℕ) : Type 0 where
  pub fine : verdict_of f ≡ Fine
  pub size : k ≡ length (text_for (ordinary_of f fine))
  pub test : formula_test (ordinary_of f fine) room ≡ Fine

module _ (f : List ℕ) (room : ℕ) where
  told_fine : (fine : verdict_of f ≡ Fine) → formula_told f room ≡ formula_reply (ordinary_of f fine) room
  unfolding formula_told
  told_fine fine = read_fine f _ _ fine

  judge_fine : (fine : verdict_of f ≡ Fine) → judge_formula_told f room ≡ judge_formula_reply (ordinary_of f fine) room
  unfolding judge_formula_told
  judge_fine fine = read_fine f _ _ fine

  judge_not : (e : Fault) → verdict_of f ≡ Err e → judge_formula_told f room ≡ fault_told e
  unfolding judge_formula_told
  judge_not e q = read_refused f _ _ e q

  -- Judging refuses as writing does.
  pub judge_refuses : (e : Refusal) → refusal_told e ≡ formula_told f room → refusal_told e ≡ judge_formula_told f room
  unfolding formula_reply judge_formula_reply
  judge_refuses e h =
      by_file f (λ x q. h ∙ sym (refused-told f x q room) ∙ sym (judge_not x q)) (λ fine. alike e _ _ _ (h ∙ told_fine fine) ∙ sym (judge_fine fine))

  pub wrote : (k : ℕ) → replied (k ∷ []) ≡ formula_told f room → Wrote f room k
  unfolding formula_reply
  wrote k h =
      by_file f (λ x q. never (let z = h ∙ sym (refused-told f x q room) in cc))
      (λ fine. let r = fine_told _ _ _ (h ∙ told_fine fine) in record { fine = fine; size = (let s = r.1 in cc); test = r.0 })

-- ---- the text judged

-- The text of a problem of 1 to 32 variables is one that the judge takes, and its verdict is the game's.
module _ (P : Problem) (some : 0 < P.n) (many : P.n ≤ 32) where
  judgeable : Judgeable (text_for P)
  judgeable =
      let b = formula_read_back P some many in
      record {
        header = rw b (sym (header_told (formula_of P) (formula_plain P some many)));
        booleans = rw b (booleans_most P some many);
        clauses = rw b (clauses_most P some many);
        ordered = rw b (formula_ordered P);
      }

  pub text-judged : (t : List ℕ) → t ≡ text_for P → (r : Bool) → (Judgeable t → r ≡ judge_formula (read_text t)) → r ≡ verdict P []
  text-judged t e r f =
      let g : Judgeable t = rw e judgeable in
      f g ∙ ap (λ (x : List ℕ). judge_formula (read_text x)) e ∙ ap judge_formula (formula_read_back P some many) ∙ formula_verdict P

module _ (f buf buf' : List ℕ) (k : ℕ) (w : Wrote f (length buf) k) (left : buf' ≡ formula_left f buf) where
  abbrev text : List ℕ
  text = text_for (ordinary_of f w.fine)

  fits : length text ≤ length buf
  unfolding formula_test text_test
  fits = leb→le (length text) (length buf) (true_holds (need_fine _ _ w.test))

  stands : buf' ≡ text ++ drop (length text) buf
  unfolding formula_left formula_buffer list_for
  stands =
      left ∙ read_fine f _ _ w.fine ∙ ap {B = List ℕ} (λ (t : Test). list_for t (stored buf 0 text) buf) w.test
      ∙ stored-start text buf fits

  -- The text stands at the front of the buffer.
  pub within : k ≤ length buf'
  within = let a = length-append text (drop (length text) buf) in omega (arith, a, ap length stands, w.size)

  front : take k buf' ≡ text
  front = ap (take k) stands ∙ take_at text (drop (length text) buf) k (sym w.size)

  pub judge_told_lem : (r : Bool) → (Judgeable (take k buf') → r ≡ judge_formula (read_text (take k buf')))
      → replied (cond r 1 0 ∷ k ∷ []) ≡ judge_formula_told f (length buf)
  unfolding judge_formula_reply
  judge_told_lem r h =
      let e = text-judged (ordinary_of f w.fine) (ordinary-some f w.fine) (ordinary_most f w.fine) (take k buf') front r h in
      reply_told (formula_test (ordinary_of f w.fine) (length buf)) (cond (verdict (ordinary_of f w.fine) []) 1 0 ∷ length text ∷ []) refl w.test
      (ap (λ (b : Bool). cond b 1 0 ∷ k ∷ []) e ∙ ap (λ (j : ℕ). cond (verdict (ordinary_of f w.fine) []) 1 0 ∷ j ∷ []) w.size)
      ∙ sym (judge_fine f (length buf) w.fine)
