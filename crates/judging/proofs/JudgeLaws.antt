-- What a search finds, tells and leaves, by the tests and the run; judging is its verdict.
use mathlib.Core.Path.{◌≡◌, refl, sym, ap, ap₂, subst, ◌∙◌}
use mathlib.Core.Bool.{Bool, true, false, cond}
use mathlib.Core.List.{List, [], ◌∷◌}
use Prim.Native.Nat.{ℕ, ◌+◌, ◌≤◌}
use native.Mathlib.Omega.{arith}
use lib.ListN.{length, take}
use lib.Seq.{take_all}
use Rattle.std.specs.Prelude.{Result, Ok, Err}
use Rattle.refusal.specs.declared.reason.Reason.{Reason}
use Rattle.refusal.specs.declared.reason.Reason.TheVariants.{Rules}
use Rattle.refusal.specs.declared.reason.Fault.{Fault}
use Rattle.refusal.specs.Chain.{Verdict, Test}
use Rattle.refusal.specs.Told.{Told, replied, reason_told, fault_told}
use Rattle.refusal.specs.Replied.{replied_for, list_for}
use Rattle.refusal.proofs.RepliedLaws.{list_refused, list_left}
use Rattle.rule_set.specs.declared.RuleSet.{RuleSet}
use Rattle.rule_set.specs.RuleSet.{is_rule_set}
use Rattle.file_reader.specs.Reading.{verdict_of}
use Rattle.file_reader.proofs.Accepted.{variables_and_ternaries}
use Rattle.game.specs.Problem.{Problem}
use Rattle.game.specs.Ternary.{TernaryProblem, ternary_verdict}
use Rattle.theory.proofs.Theorems.{search_answers}
use Rattle.ternary_theory.specs.Expanded.{expanded}
use Rattle.ternary_theory.proofs.Expansion.{legal_wide, expanded_verdict}
use Rattle.file_decoder.specs.FileProblem.{problem_of, ternary_of, ordinary_of}
use Rattle.ternary_decoder.specs.Decoded.{OrdinaryGiven}
use Rattle.file_decoder.proofs.FileLaws.{problem_size}
use Rattle.file_decoder.proofs.ReadLaws.{read_refused, read_fine}
use Rattle.solver_arrays.specs.declared.arrays.Arrays.{Arrays}
use Rattle.solver_arrays.specs.Arrays.{Posed}
use Rattle.position.specs.declared.Position.{Position}
use Rattle.position.specs.Position.{plays_of}
use Rattle.position.proofs.Fitting.{fits-legal}
use Rattle.search_words.specs.TurnRoom.{zeroed}
use Rattle.search_run.specs.declared.Ran.{Ran}
use Rattle.search_run.specs.Run.{room_words, Finds, Runs}
use Rattle.judging.specs.Tests.{room_for, judge_test, place_test}
use Rattle.judging.specs.Judging.{judge_reply, judge_room, judge_told, judge_left}
use Rattle.judging.specs.Searching.{Findings, findings_of, nothing, found_by, found_for, search_findings, search_reply, search_found}
use Rattle.judging.specs.Inner.{FindsBy, Places, Searches}
use Rattle.judging.proofs.TestLaws.{judge_fits, set-goes, set_stops, test_same}

-- v is the test as the code makes it, t as the problem's.
module _ {v : Test} (t : Test) where
  found_refused : {e : Reason} (o : Findings) → v ≡ t → v ≡ Err e → nothing (reason_told e) ≡ found_for t o
  unfolding found_for
  found_refused o s q = sym (ap (λ (w : Test). found_for w o) (sym s ∙ q))

  found_fine : {u : Unit {0}} {r : Findings} (o : Findings) → v ≡ t → v ≡ Ok u → r ≡ o → r ≡ found_for t o
  unfolding found_for
  found_fine o s q e = e ∙ sym (ap (λ (w : Test). found_for w o) (sym s ∙ q))

-- Findings that agree.
same_findings : {t t' : Told} {b b' : Bool} {l l' : List ℕ} {c c' : ℕ} {q q' : List ℕ} → t ≡ t' → b ≡ b' → l ≡ l' → c ≡ c' → q ≡ q'
    → ◌≡◌ {A = Findings} (record { told = t; loss = b; list = l; conflict = c; leaf = q }) (record { told = t'; loss = b'; list = l'; conflict = c'; leaf = q' })
same_findings {t = t} {t' = t'} {b = b} {b' = b'} {l = l} {l' = l'} {c = c} {c' = c'} {q = q} {q' = q'} u v w x y =
    ap (λ (t : Told). record { told = t; loss = b; list = l; conflict = c; leaf = q }) u
    ∙ ap (λ (b : Bool). record { told = t'; loss = b; list = l; conflict = c; leaf = q }) v
    ∙ ap (λ (l : List ℕ). record { told = t'; loss = b'; list = l; conflict = c; leaf = q }) w
    ∙ ap (λ (c : ℕ). record { told = t'; loss = b'; list = l'; conflict = c; leaf = q }) x
    ∙ ap (λ (q : List ℕ). record { told = t'; loss = b'; list = l'; conflict = c'; leaf = q }) y

ran_found : (P : Problem) (S : ℕ) (p : Position) (r : Ran) → Finds P S p r → findings_of r ≡ search_findings P p S
unfolding findings_of search_findings
ran_found P S p r f = same_findings (ap (λ (b : Bool). replied (cond b 1 0 ∷ [])) f.won) f.loss f.list f.conflict f.leaf

-- Over the arrays, behind the rule set, the test being t.
module _ (A : Arrays) (p : Position) (set : ℕ) (w : List ℕ) (t : Test)
    (tested : t ≡ place_test A.own A.domains p (room_words A.n) (length w)) where
  pub places_refused : {e : Reason} (r : Result Ran Reason) → t ≡ Err e → r ≡ Err e → Places A p set w w r
  places_refused r z q = λ P o. (ap (found_by reason_told) q ∙ found_refused _ _ tested z, list_refused _ _ _ tested z)

  pub places_ran : {u : Unit {0}} (r : Ran) (w' : List ℕ) → t ≡ Ok u → Runs A set p r → w' ≡ zeroed 0 (room_words A.n) w
      → Places A p set w w' (Ok r)
  places_ran r w' z f g = λ P o. (found_fine _ _ tested z (ran_found P set p r (f P o)), list_left _ _ _ tested z g)

-- With the rule set's number.
module _ (A : Arrays) (p : Position) (set : ℕ) (w w' : List ℕ) (r : Result Ran Reason) where
  pub searches_none : {e : Reason} → is_rule_set set ≡ false → e ≡ Rules → w' ≡ w → r ≡ Err e → Searches A p set w w' r
  searches_none z k g q = λ P o.
      let s = set_stops A.own A.domains p set (room_words A.n) (length w) z in
      (ap (found_by reason_told) q ∙ ap (λ (e : Reason). nothing (reason_told e)) k ∙ found_refused _ _ refl s, g ∙ list_refused _ _ _ refl s)

  pub searches_with : (c : RuleSet) → is_rule_set set ≡ true → c.bits ≡ set → Places A p c.bits w w' r → Searches A p set w w' r
  searches_with c z e f = λ P o.
      subst (λ (k : ℕ). FindsBy A (judge_test A.own A.domains p set (room_words A.n) (length w)) p k w w' r) e
      (subst (λ (t : Test). FindsBy A t p c.bits w w' r) (sym (set-goes A.own A.domains p set (room_words A.n) (length w) z)) f) P o

-- What an entry is given of a file.
module _ (f : List ℕ) (A : Arrays) (g : OrdinaryGiven f A) where
  pub ready_of : Posed A
  ready_of = record { problem = ordinary_of f g.fine; poses = g.poses }

  -- So the arrays' findings are the file's.
  pub searched_file : (p : Position) (set : ℕ) (w w' : List ℕ) (r : Result Ran Reason) → Searches A p set w w' r
      → (found_by reason_told r ≡ search_found f p set (length w)) × (w' ≡ judge_left f p set w)
  unfolding search_found search_reply judge_left judge_room ternary_of ordinary_of expanded
  searched_file p set w w' r j =
      let J = ternary_of f g.fine in
      let P = problem_of f g.fine in
      let q = j (ordinary_of f g.fine) g.poses in
      let z : J.binary.n + J.ternary ≡ A.n = g.poses.states.size in
      let t : judge_test A.own A.domains p set (room_words A.n) (length w) ≡ judge_test P.n P.domain p set (room_for J) (length w)
      = test_same P A.own A.domains (problem_size f g.fine ∙ sym g.size) g.domain p set (room_words A.n) (length w)
      ∙ ap (λ (k : ℕ). judge_test P.n P.domain p set (room_words k) (length w)) (sym z)
      in (
        q.0 ∙ ap (λ (t : Test). found_for t (search_findings (expanded J) p set)) t ∙ sym (read_fine f _ _ g.fine),
        q.1 ∙ ap₂ (λ (t : Test) (k : ℕ). list_for t (zeroed 0 (room_words k) w) w) t (sym z) ∙ sym (read_fine f _ _ g.fine),
      )

-- A refused file.
pub refused-file : (f : List ℕ) (p : Position) (set : ℕ) (w : List ℕ) (e : Fault) → verdict_of f ≡ Err e
    → (nothing (fault_told e) ≡ search_found f p set (length w)) × (w ≡ judge_left f p set w)
unfolding search_found judge_left
refused-file f p set w e z = (sym (read_refused f _ _ e z), sym (read_refused f _ _ e z))

-- The verdict found is the game's, under every rule set.
pub own-domain : (P : Problem) → P.domain ≡ take P.n P.domain
own-domain P = sym (take_all P.n P.domain (let e = P.sized in omega arith))

verdict-found : (J : TernaryProblem) (p : Position) (set words : ℕ) → J.binary.n ≤ 32 → length p.values ≡ 32 → (search_reply J p set words).told ≡ judge_reply J p set words
unfolding search_reply judge_reply found_for replied_for nothing search_findings
verdict-found J p set words m long = go (judge_test J.binary.n J.binary.domain p set (room_for J) words) refl
  where
    go : (v : Test) → judge_test J.binary.n J.binary.domain p set (room_for J) words ≡ v
        → (found_for v (search_findings (expanded J) p set)).told ≡ replied_for v (cond (ternary_verdict J (plays_of p)) 1 0 ∷ [])
    go (Ok u) z =
        let l = fits-legal p J.binary.n J.binary.domain (judge_fits J.binary.n J.binary.domain p set (room_for J) words z) m long J.binary refl (own-domain J.binary) in
        ap (λ (b : Bool). replied (cond b 1 0 ∷ [])) (search_answers (expanded J) set (plays_of p) (legal_wide J (plays_of p) l) ∙ expanded_verdict J (plays_of p) l)
    go (Err e) z = refl

-- So judging is the verdict of a search.
pub judged-found : (f : List ℕ) (p : Position) (set words : ℕ) → length p.values ≡ 32 → (search_found f p set words).told ≡ judge_told f p set words
unfolding search_found judge_told nothing problem_of ternary_of
judged-found f p set words long = go (verdict_of f) refl
  where
    go : (v : Verdict) → verdict_of f ≡ v → (search_found f p set words).told ≡ judge_told f p set words
    go (Ok u) z =
        ap {B = Told} (λ (o : Findings). o.told) (read_fine f _ _ z)
        ∙ verdict-found (ternary_of f z) p set words (omega (arith, variables_and_ternaries f z)) long
        ∙ sym (read_fine f _ _ z)
    go (Err e) z = ap {B = Told} (λ (o : Findings). o.told) (read_refused f _ _ e z) ∙ sym (read_refused f _ _ e z)
