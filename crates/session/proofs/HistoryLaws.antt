-- Calls one after another: the position shows what stands, and the replies are those of the plain list.
use mathlib.Core.Path.{◌≡◌, refl, sym, ap, ◌∙◌}
use mathlib.Core.Bool.{Bool, true, false, cond, ◌&&◌}
use mathlib.Core.List.{List, [], ◌∷◌, ◌++◌}
use Prim.Native.Nat.{ℕ, ◌≤◌}
use native.Mathlib.Omega.{arith}
use lib.Dec.{T, eqb, ltb, leb}
use lib.ListN.{get_or, length, length-append}
use lib.Seq.{take_all}
use borrow.Author.Tests.{ltb-true, lt-ltb, ne_eqb}
use Rattle.mask.specs.Mask.{bit}
use Rattle.mask.proofs.Logic.{holds}
use Rattle.std.specs.Prelude.{Result, Ok}
use Rattle.refusal.specs.declared.reason.Reason.{Reason}
use Rattle.refusal.specs.declared.reason.Reason.TheVariants.{Misfit}
use Rattle.refusal.specs.Chain.{Fine, ◌then◌, need}
use Rattle.refusal.proofs.Chain.{need_ok}
use Rattle.refusal.specs.Told.{replied, refused, in_call}
use Rattle.refusal.specs.Replied.{passed}
use Rattle.file_reader.specs.Reading.{verdict_of}
use Rattle.file_reader.proofs.Accepted.{variables_most}
use Rattle.game.specs.Problem.{Problem}
use Rattle.game.specs.Lists.{domains}
use Rattle.game.specs.Position.{legal}
use Rattle.game.specs.Calls.{Call, play, take_back, lock, unlock, PlainList, plain, nothing_stands, without_last, after_call, standing_from, standing}
use Rattle.theory.proofs.TurnLists.{legal_out}
use Rattle.theory.proofs.Standing.{length-without_last, legal_none, legal-after, standing-legal, depth_after, standing_depth_lem}
use Rattle.file_decoder.specs.FileProblem.{problem_of}
use Rattle.position.specs.declared.Position.{Position}
use Rattle.position.specs.Position.{shown, held, plays_of, fits_in, fit_test}
use Rattle.position.proofs.Fitting.{legal-fits}
use Rattle.position.proofs.Shown.{plays_shown, pushed-shown, popped-shown}
use Rattle.session.specs.declared.Opened.{Opened}
use Rattle.session.specs.Plays.{play_test, take_back_test, unlock_test, play_in, take_back_in, lock_in, unlock_in}
use Rattle.session.specs.Opening.{opened_after, open_in}
use Rattle.session.specs.Told.{told, left, told_opened, play_told, play_left, take_back_told, take_back_left, lock_told, lock_left, unlock_told, unlock_left, open_told}
use Rattle.session.specs.History.{call_told, step, reached_from, reached_by, list_told, list_opened}
use Rattle.session.proofs.FileLaws.{play_file_lem, take_back_file_lem, lock_file_lem, unlock_file_lem, open_file_lem}

-- The position that shows what stands.
abbrev pub show : PlainList → Position
show s = shown s.depth s.plays

module _ (P : Problem) (small : P.n ≤ 32) where
  -- A position that shows legal plays, and no more of them held, fits.
  pub legal_fit : (l : List ℕ) (d : ℕ) → T (legal P l) → d ≤ length l → T (fits_in (shown d l) P.n P.domain)
  legal_fit l d t u = legal-fits P P.n P.domain l d refl (sym (take_all P.n P.domain (omega (arith, P.sized)))) t u

  pub fit_is : (l : List ℕ) (d : ℕ) → T (legal P l) → d ≤ length l → fit_test P.n P.domain (shown d l) ≡ Fine
  unfolding fit_test
  fit_is l d t u = need_ok (fits_in (shown d l) P.n P.domain) Misfit (holds (legal_fit l d t u))

  -- What one call does to a position that shows s.
  record Step (s : PlainList) (r : Result Position Reason) (c : Call) : Type 0 where
    tells : told (in_call r) ≡ list_told P s c
    leads : left (show s) (in_call r) ≡ show (after_call P s c)

  module _ (l : List ℕ) (d : ℕ) (t : T (legal P l)) (u : d ≤ length l) where
    -- A play, by whether a variable is left and whether its domain holds the value.
    play_by : (a : ℕ) (b m : Bool) → ltb (length l) P.n ≡ b → bit (get_or P.domain (length l) 0) a ≡ m → Step (plain l d) (play_in P.n P.domain (shown d l) a) (play a)
    unfolding play_in play_test passed need ◌then◌ told left list_told after_call domains shown
    play_by a false m e f = record { tells = rw (fit_is l d t u, e); leads = rw (fit_is l d t u, e) }
    play_by a true false e f = record { tells = rw (fit_is l d t u, e, f); leads = rw (fit_is l d t u, e, f) }
    play_by a true true e f =
        let h = ltb-true (length l) P.n e in
        record { tells = rw (fit_is l d t u, e, f); leads = rw (fit_is l d t u, e, f) (pushed-shown d l a (omega arith)) }

    lock_by : Step (plain l d) (lock_in P.n P.domain (shown d l)) lock
    unfolding lock_in passed told left list_told after_call shown held
    lock_by = record { tells = rw (fit_is l d t u); leads = rw (fit_is l d t u) }

    -- An unlock, by whether its number is above the depth.
    unlock_by : (k : ℕ) (b : Bool) → leb k d ≡ b → Step (plain l d) (unlock_in P.n P.domain (shown d l) k) (unlock k)
    unfolding unlock_in unlock_test passed need ◌then◌ told left list_told after_call shown held
    unlock_by k true e = record { tells = rw (fit_is l d t u, e); leads = rw (fit_is l d t u, e) }
    unlock_by k false e = record { tells = rw (fit_is l d t u, e); leads = rw (fit_is l d t u, e) }

  -- A take-back: with none played; with some, by whether all are held.
  take_back_by : (l : List ℕ) (d : ℕ) → T (legal P l) → d ≤ length l → (b : Bool) → eqb (length l) d ≡ b
      → Step (plain l d) (take_back_in P.n P.domain (shown d l)) take_back
  unfolding take_back_in take_back_test passed need ◌then◌ told left list_told after_call without_last shown
  take_back_by [] d t u true e = record { tells = rw (fit_is [] d t u); leads = rw (fit_is [] d t u, e) }
  take_back_by [] d t u false e = record { tells = rw (fit_is [] d t u); leads = rw (fit_is [] d t u, e) }
  take_back_by (x ∷ l) d t u b e =
      let h = (legal_out P (x ∷ l) t).0 in
      let some : ltb 0 (length (x ∷ l)) ≡ true = lt-ltb 0 (length (x ∷ l)) (omega arith) in
      let none : eqb (length (x ∷ l)) 0 ≡ false = ne_eqb (length (x ∷ l)) 0 (λ e. absurd (omega arith)) in
      go some none (omega arith) b e
    where
      go : ltb 0 (length (x ∷ l)) ≡ true → eqb (length (x ∷ l)) 0 ≡ false → length (x ∷ l) ≤ 32 → (b : Bool) → eqb (length (x ∷ l)) d ≡ b
          → Step (plain (x ∷ l) d) (take_back_in P.n P.domain (shown d (x ∷ l))) take_back
      go some none h true e = record { tells = rw (fit_is (x ∷ l) d t u, some, none, e); leads = rw (fit_is (x ∷ l) d t u, some, e) }
      go some none h false e =
          record { tells = rw (fit_is (x ∷ l) d t u, some, none, e); leads = rw (fit_is (x ∷ l) d t u, some, e) (popped-shown d (x ∷ l) (omega arith) h) }

  -- The open values of a position that shows l.
  open_by : (l : List ℕ) (d : ℕ) → T (legal P l) → d ≤ length l → open_in P (shown d l) ≡ Ok (opened_after P l)
  unfolding open_in passed
  open_by l d t u = rw (fit_is l d t u, plays_shown d l)

-- ---- what the plain list says

not-refused : {X : Type 0} (e : ℕ) (l : List ℕ) → replied l ≡ refused e → X
not-refused e l q = let z : ◌≡◌ {A = ℕ} 0 1 = cc in absurd (omega arith)

-- A call that is refused leaves the plays and the depth as they are.
pub told_stays : (P : Problem) (s : PlainList) (c : Call) (e : ℕ) → list_told P s c ≡ refused e → after_call P s c ≡ s
unfolding list_told after_call without_last
told_stays P s (play a) e q = by (ltb (length s.plays) P.n) (domains P.domain (length s.plays) a) q
  where
    by : (b d : Bool) → cond b (cond d (replied []) (refused 10)) (refused 20) ≡ refused e → plain (cond (b && d) (s.plays ++ (a ∷ [])) s.plays) s.depth ≡ s
    by false d r = refl
    by true false r = refl
    by true true r = not-refused e [] r
told_stays P s take_back e q = taken s.plays (eqb (length s.plays) s.depth) q
  where
    taken : (l : List ℕ) (b : Bool) → cond (eqb (length l) 0) (refused 21) (cond b (refused 24) (replied [])) ≡ refused e → plain (cond b l (without_last l)) s.depth ≡ plain l s.depth
    taken l true r = refl
    taken [] false r = refl
    taken (x ∷ l) false r = not-refused e [] (rw (ne_eqb (length (x ∷ l)) 0 (λ z. absurd (omega arith))) at r)
told_stays P s lock e q = not-refused e [] q
told_stays P s (unlock k) e q = by (leb k s.depth) q
  where
    by : (b : Bool) → cond b (replied []) (refused 25) ≡ refused e → plain s.plays (cond b k s.depth) ≡ s
    by true r = not-refused e [] r
    by false r = refl

-- A play and a take-back that are done change the plays. (A lock or an unlock that is done may change nothing.)
pub play_moves : (P : Problem) (s : PlainList) (a : ℕ) → list_told P s (play a) ≡ replied [] → ¬ ((after_call P s (play a)).plays ≡ s.plays)
unfolding list_told after_call
play_moves P s a q = by (ltb (length s.plays) P.n) (domains P.domain (length s.plays) a) q
  where
    by : (b d : Bool) → cond b (cond d (replied []) (refused 10)) (refused 20) ≡ replied [] → ¬ (cond (b && d) (s.plays ++ (a ∷ [])) s.plays ≡ s.plays)
    by false d r = not-refused 20 [] (sym r)
    by true false r = not-refused 10 [] (sym r)
    by true true r = λ z. omega (arith, ap length z, length-append s.plays (a ∷ []))

pub take_back_moves : (P : Problem) (s : PlainList) → list_told P s take_back ≡ replied [] → ¬ ((after_call P s take_back).plays ≡ s.plays)
unfolding list_told after_call without_last
take_back_moves P s q = taken s.plays (eqb (length s.plays) s.depth) q
  where
    taken : (l : List ℕ) (b : Bool) → cond (eqb (length l) 0) (refused 21) (cond b (refused 24) (replied [])) ≡ replied [] → ¬ (cond b l (without_last l) ≡ l)
    taken [] b r = not-refused 21 [] (sym r)
    taken (x ∷ l) true r = not-refused 24 [] (sym (rw (ne_eqb (length (x ∷ l)) 0 (λ z. absurd (omega arith))) at r))
    taken (x ∷ l) false r = λ z. omega (arith, ap length z, length-without_last x l)

-- ---- over a file

module _ (f : List ℕ) (fine : verdict_of f ≡ Fine) where
  -- The problem of the file.
  abbrev P : Problem
  P = problem_of f fine

  pub few : P.n ≤ 32
  unfolding problem_of
  few = variables_most f fine

  -- One call on a position that shows what stands: what it tells is what the plain list says, and it shows what then stands.
  module _ (s : PlainList) (t : T (legal P s.plays)) (u : s.depth ≤ length s.plays) where
    call_told_lem : (c : Call) → call_told f (show s) c ≡ list_told P s c
    unfolding call_told play_told take_back_told lock_told unlock_told
    call_told_lem (play a) = ap told (play_file_lem f (show s) fine a) ∙ (play_by P few s.plays s.depth t u a _ _ refl refl).tells
    call_told_lem take_back = ap told (take_back_file_lem f (show s) fine) ∙ (take_back_by P few s.plays s.depth t u _ refl).tells
    call_told_lem lock = ap told (lock_file_lem f (show s) fine) ∙ (lock_by P few s.plays s.depth t u).tells
    call_told_lem (unlock k) = ap told (unlock_file_lem f (show s) fine k) ∙ (unlock_by P few s.plays s.depth t u k _ refl).tells

    call_leads : (c : Call) → step f (show s) c ≡ show (after_call P s c)
    unfolding step play_left take_back_left lock_left unlock_left
    call_leads (play a) = ap (left (show s)) (play_file_lem f (show s) fine a) ∙ (play_by P few s.plays s.depth t u a _ _ refl refl).leads
    call_leads take_back = ap (left (show s)) (take_back_file_lem f (show s) fine) ∙ (take_back_by P few s.plays s.depth t u _ refl).leads
    call_leads lock = ap (left (show s)) (lock_file_lem f (show s) fine) ∙ (lock_by P few s.plays s.depth t u).leads
    call_leads (unlock k) = ap (left (show s)) (unlock_file_lem f (show s) fine k) ∙ (unlock_by P few s.plays s.depth t u k _ refl).leads

  calls_lead : (s : PlainList) (cs : List Call) → T (legal P s.plays) → s.depth ≤ length s.plays → reached_from f (show s) cs ≡ show (standing_from P s cs)
  unfolding reached_from standing_from
  calls_lead s [] t u = refl
  calls_lead s (c ∷ cs) t u = ap (λ (q : Position). reached_from f q cs) (call_leads s t u c) ∙ calls_lead (after_call P s c) cs (legal-after P s c t) (depth_after P s c u)

  -- After any list of calls, refused ones among them, the position shows exactly the plays that stand, and the depth.
  pub reached_shows : (cs : List Call) → reached_by f cs ≡ show (standing P cs)
  unfolding reached_by standing
  reached_shows cs = calls_lead nothing_stands cs (legal_none P) (omega arith)

  -- It fits, and its plays are those.
  pub reached-fits : (cs : List Call) → T (fits_in (reached_by f cs) P.n P.domain)
  reached-fits cs = let s = standing P cs in rw (reached_shows cs) (legal_fit P few s.plays s.depth (standing-legal P cs) (standing_depth_lem P cs))

  pub reached_plays : (cs : List Call) → plays_of (reached_by f cs) ≡ (standing P cs).plays
  reached_plays cs = let s = standing P cs in ap plays_of (reached_shows cs) ∙ plays_shown s.depth s.plays

  -- The next call tells what the plain list says: 20, 10, 21, 24, 25 or done.
  pub reached-told : (cs : List Call) (c : Call) → call_told f (reached_by f cs) c ≡ list_told P (standing P cs) c
  reached-told cs c = ap (λ (q : Position). call_told f q c) (reached_shows cs) ∙ call_told_lem (standing P cs) (standing-legal P cs) (standing_depth_lem P cs) c

  -- One that is refused leaves the position, the plays and the depth.
  pub reached_stays : (cs : List Call) (c : Call) (e : ℕ) → call_told f (reached_by f cs) c ≡ refused e
      → (step f (reached_by f cs) c ≡ reached_by f cs) × (after_call P (standing P cs) c ≡ standing P cs)
  reached_stays cs c e q =
      let s = standing P cs in
      let h = told_stays P s c e (sym (reached-told cs c) ∙ q) in
      (ap (λ (q : Position). step f q c) (reached_shows cs) ∙ call_leads s (standing-legal P cs) (standing_depth_lem P cs) c ∙ ap show h ∙ sym (reached_shows cs), h)

  -- The open values told at the position reached are those of the plays that stand, and so are their counts.
  pub reached-opens : (cs : List Call) → open_told f (reached_by f cs) ≡ list_opened P (standing P cs).plays
  unfolding open_told told_opened opened_after list_opened
  reached-opens cs =
      let s = standing P cs in
      ap (open_told f) (reached_shows cs)
      ∙ ap told_opened (open_file_lem f (show s) fine)
      ∙ ap (λ (r : Result Opened Reason). told_opened (in_call r)) (open_by P few s.plays s.depth (standing-legal P cs) (standing_depth_lem P cs))
