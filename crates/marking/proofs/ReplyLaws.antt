-- What marking tells and leaves, by the tests and the winning values.
use mathlib.Core.Path.{◌≡◌, refl, sym, ap, ap₂, subst, ◌∙◌}
use mathlib.Core.Bool.{true, false}
use mathlib.Core.List.{List, [], ◌∷◌}
use Prim.Native.Nat.{ℕ, ◌+◌, ◌≤◌, ◌<◌}
use native.Mathlib.Omega.{arith}
use lib.Dec.{T, ltb}
use lib.ListN.{get_or, length, take}
use borrow.Author.Tests.{ltb-true}
use Rattle.mask.proofs.Logic.{true_holds}
use Rattle.std.specs.Prelude.{Result, Ok, Err}
use Rattle.refusal.specs.declared.reason.Reason.{Reason}
use Rattle.refusal.specs.declared.reason.Reason.TheVariants.{Rules, Done}
use Rattle.refusal.specs.Told.{replied, reason_told, told_by}
use Rattle.refusal.specs.Replied.{replied_for, list_for}
use Rattle.refusal.proofs.RepliedLaws.{reply_refused, reply_told, list_refused, list_left}
use Rattle.refusal.specs.Chain.{Test, Fine, ◌then◌, need}
use Rattle.refusal.proofs.Chain.{then_fine, need_fine}
use Rattle.rule_set.specs.declared.RuleSet.{RuleSet}
use Rattle.rule_set.specs.RuleSet.{is_rule_set}
use Rattle.game.specs.Problem.{Problem}
use Rattle.game.specs.Search.{marked_values}
use Rattle.game.specs.Ternary.{TernaryProblem, ternary_winning}
use Rattle.theory.proofs.Theorems.{marks_are}
use Rattle.ternary_theory.specs.Expanded.{expanded, domain_own}
use Rattle.ternary_theory.proofs.Expansion.{legal_wide, expanded_winning}
use Rattle.solver_arrays.specs.declared.arrays.Arrays.{Arrays}
use Rattle.file_decoder.specs.FileProblem.{problem_of, ternary_of, ordinary_of}
use Rattle.ternary_decoder.specs.Decoded.{OrdinaryGiven}
use Rattle.file_decoder.proofs.FileLaws.{problem_size}
use Rattle.file_decoder.proofs.ReadLaws.{read_fine}
use Rattle.position.specs.declared.Position.{Position}
use Rattle.position.specs.Position.{plays_of, fits_in}
use Rattle.position.proofs.Fitting.{fits-legal, length_plays}
use Rattle.search_words.specs.TurnRoom.{zeroed}
use Rattle.search_run.specs.Run.{room_words}
use Rattle.judging.specs.Tests.{position_test, room_for, room_test}
use Rattle.judging.proofs.TestLaws.{room_fine, position_same}
use Rattle.judging.proofs.JudgeLaws.{own-domain}
use Rattle.marking.specs.declared.Marks.{Marks}
use Rattle.marking.specs.Marks.{Wins}
use Rattle.marking.specs.Marking.{mark_values, mark_test, mark_place_test, mark_reply, mark_room, mark_told, mark_left, MarksBy, MarksWith, MarksIn}

-- What fine tests say.
pub place_fine : (n : ℕ) (masks : List ℕ) (p : Position) (needed words : ℕ) (v : Test) → v ≡ mark_place_test n masks p needed words → v ≡ Fine
    → T (fits_in p n masks) × (p.plays < n) × (needed ≤ words)
unfolding mark_place_test
place_fine n masks p needed words v t z =
    let a = then_fine _ _ (sym t ∙ z) in
    let c = then_fine _ _ a.1 in
    (true_holds (need_fine _ _ a.0), ltb-true p.plays n (need_fine _ _ c.0), room_fine needed words c.1)

module _ (n : ℕ) (masks : List ℕ) (p : Position) (set needed words : ℕ) where
  -- Behind a rule set come the other tests; a number that is none is 8.
  mark_goes : is_rule_set set ≡ true → mark_test n masks p set needed words ≡ mark_place_test n masks p needed words
  unfolding mark_test mark_place_test position_test need ◌then◌
  mark_goes e = rw e

  mark_stops : is_rule_set set ≡ false → mark_test n masks p set needed words ≡ Err Rules
  unfolding mark_test position_test need ◌then◌
  mark_stops e = rw e

  mark_fits : mark_test n masks p set needed words ≡ Fine → T (fits_in p n masks) × (p.plays < n)
  unfolding mark_test position_test
  mark_fits e =
      let a = then_fine _ _ e in
      (true_holds (need_fine _ _ (then_fine _ _ a.0).1), ltb-true p.plays n (need_fine _ _ (then_fine _ _ a.1).0))

-- The tests are those of the problem.
mark_same : (P : Problem) (n : ℕ) (masks : List ℕ) → P.n ≡ n → P.domain ≡ take n masks → (p : Position) (set needed words : ℕ)
    → mark_test n masks p set needed words ≡ mark_test P.n P.domain p set needed words
unfolding mark_test
mark_same P n masks e f p set needed words =
    ap₂ (λ (v : Test) (k : ℕ). v then (need (ltb p.plays k) Done then room_test needed words)) (position_same P n masks e f p set) (sym e)

-- Over the arrays, behind the rule set, the test being t.
module _ (A : Arrays) (p : Position) (set : ℕ) (w : List ℕ) (t : Test)
    (tested : t ≡ mark_place_test A.own A.domains p (room_words A.n) (length w)) where
  pub marks_refused : {e : Reason} (r : Result Marks Reason) → t ≡ Err e → r ≡ Err e → MarksWith A p set w w r
  marks_refused r z q = λ P o. (ap (told_by mark_values reason_told) q ∙ reply_refused _ _ tested z, list_refused _ _ _ tested z)

  pub marks_told : {u : Unit {0}} (m : Marks) (w' : List ℕ) → t ≡ Ok u → Wins A set p m.winning m.domain → w' ≡ zeroed 0 (room_words A.n) w
      → MarksWith A p set w w' (Ok m)
  marks_told m w' z f e = λ P o. (reply_told _ _ tested z (ap₂ (λ a b. a ∷ b ∷ []) (f P o).0 (f P o).1), list_left _ _ _ tested z e)

-- With the rule set's number.
module _ (A : Arrays) (p : Position) (set : ℕ) (w w' : List ℕ) (r : Result Marks Reason) where
  pub marks_none : {e : Reason} → is_rule_set set ≡ false → e ≡ Rules → w' ≡ w → r ≡ Err e → MarksIn A p set w w' r
  marks_none z k g q = λ P o.
      let s = mark_stops A.own A.domains p set (room_words A.n) (length w) z in
      (ap (told_by mark_values reason_told) q ∙ ap reason_told k ∙ reply_refused _ _ refl s, g ∙ list_refused _ _ _ refl s)

  pub marks_with : (c : RuleSet) → is_rule_set set ≡ true → c.bits ≡ set → MarksWith A p c.bits w w' r → MarksIn A p set w w' r
  marks_with c z e f = λ P o.
      subst (λ (k : ℕ). MarksBy A (mark_test A.own A.domains p set (room_words A.n) (length w)) p k w w' r) e
      (subst (λ (t : Test). MarksBy A t p c.bits w w' r) (sym (mark_goes A.own A.domains p set (room_words A.n) (length w) z)) f) P o

-- The marks found are the game's, under every rule set.
marked_values_lem : (J : TernaryProblem) (p : Position) (set words : ℕ) → J.binary.n ≤ 32 → length p.values ≡ 32
    → replied_for (mark_test J.binary.n J.binary.domain p set (room_for J) words) (marked_values (expanded J) set (plays_of p) ∷ get_or (expanded J).domain p.plays 0 ∷ []) ≡ mark_reply J p set words
unfolding mark_reply replied_for expanded
marked_values_lem J p set words m long = go (mark_test J.binary.n J.binary.domain p set (room_for J) words) refl
  where
    go : (v : Test) → mark_test J.binary.n J.binary.domain p set (room_for J) words ≡ v
        → replied_for v (marked_values (expanded J) set (plays_of p) ∷ get_or (expanded J).domain p.plays 0 ∷ []) ≡ replied_for v (ternary_winning J (plays_of p) ∷ get_or J.binary.domain p.plays 0 ∷ [])
    go (Ok u) z =
        let t = mark_fits J.binary.n J.binary.domain p set (room_for J) words z in
        let k = length_plays p J.binary.n J.binary.domain t.0 m long in
        let h = t.1 in
        let l = fits-legal p J.binary.n J.binary.domain t.0 m long J.binary refl (own-domain J.binary) in
        ap₂ (λ a d. replied (a ∷ d ∷ []))
        (marks_are (expanded J) set (plays_of p) (legal_wide J (plays_of p) l) (omega arith) ∙ expanded_winning J (plays_of p) l (omega arith))
        (domain_own J p.plays h)
    go (Err e) z = refl

-- So the arrays' reply is the file's.
pub marked-file : (f : List ℕ) (A : Arrays) → OrdinaryGiven f A
    → (p : Position) → length p.values ≡ 32 → (set : ℕ) (w w' : List ℕ) (r : Result Marks Reason) → MarksIn A p set w w' r
    → (told_by mark_values reason_told r ≡ mark_told f p set (length w)) × (w' ≡ mark_left f p set w)
unfolding mark_told mark_left mark_room ternary_of ordinary_of expanded
marked-file f A g p long set w w' r j =
    let J = ternary_of f g.fine in
    let P = problem_of f g.fine in
    let q = j (ordinary_of f g.fine) g.poses in
    let z : J.binary.n + J.ternary ≡ A.n = g.poses.states.size in
    let t : mark_test A.own A.domains p set (room_words A.n) (length w) ≡ mark_test P.n P.domain p set (room_for J) (length w)
    = mark_same P A.own A.domains (problem_size f g.fine ∙ sym g.size) g.domain p set (room_words A.n) (length w)
    ∙ ap (λ (k : ℕ). mark_test P.n P.domain p set (room_words k) (length w)) (sym z)
    in (
      q.0 ∙ ap (λ (t : Test). replied_for t (marked_values (expanded J) set (plays_of p) ∷ get_or (expanded J).domain p.plays 0 ∷ [])) t
          ∙ marked_values_lem J p set (length w) (omega (arith, z, A.most)) long ∙ sym (read_fine f _ _ g.fine),
      q.1 ∙ ap₂ (λ (t : Test) (k : ℕ). list_for t (zeroed 0 (room_words k) w) w) t (sym z) ∙ sym (read_fine f _ _ g.fine),
    )
