-- What a file's verdict makes of a call.
use mathlib.Core.Path.{◌≡◌, sym, ap, subst, ◌∙◌}
use mathlib.Core.List.{List}
use Prim.Native.Nat.{ℕ, ◌≤◌, ◌<◌}
use native.Mathlib.Omega.{arith}
use lib.ListN.{get_or}
use lib.Seq.{get_or-take}
use Rattle.std.specs.Prelude.{Result, Err}
use Rattle.refusal.specs.declared.reason.Reason.{Reason}
use Rattle.refusal.specs.declared.reason.Fault.{Fault}
use Rattle.refusal.specs.declared.reason.Refusal.{Refusal}
use Rattle.refusal.specs.declared.reason.Refusal.TheVariants.{InFile}
use Rattle.refusal.specs.Chain.{Fine}
use Rattle.refusal.specs.Told.{in_call}
use Rattle.file_reader.specs.declared.Head.{Head}
use Rattle.file_reader.specs.Reading.{n_of, domains_of, verdict_of}
use Rattle.file_reader.proofs.Accepted.{Shows, variables_most}
use Rattle.game.specs.Problem.{Problem}
use Rattle.solver_arrays.specs.declared.arrays.Arrays.{Arrays}
use Rattle.solver_arrays.specs.Arrays.{States}
use Rattle.file_decoder.specs.FileProblem.{problem_of}
use Rattle.file_decoder.specs.Decoded.{FileGiven}
use Rattle.file_decoder.proofs.FileLaws.{problem_size, problem_domains}
use Rattle.file_decoder.proofs.Stated.{given_domain}
use Rattle.file_decoder.proofs.ReadLaws.{read_refused, read_fine}
use Rattle.position.specs.declared.Position.{Position}
use Rattle.session.specs.declared.Opened.{Opened}
use Rattle.session.specs.Plays.{play_in, take_back_in, lock_in, unlock_in}
use Rattle.session.specs.Opening.{PosesOwn, open_in}
use Rattle.session.specs.Files.{file_first, play_file, take_back_file, lock_file, unlock_file, open_file}
use Rattle.session.specs.Told.{told, left, told_opened, masks_in, counts_in, play_told, play_left, take_back_told, take_back_left, lock_told, lock_left, unlock_told, unlock_left}
use Rattle.session.specs.Told.{open_told, masks_shown, counts_shown}
use Rattle.session.proofs.PlayLaws.{DomainsOf, play_same, take_back_same, lock_same, unlock_same}

pub read_most : (f : List ℕ) (h : Head) → Shows f h → h.n ≤ 32
read_most f h s = omega (arith, s.variables, variables_most f s.fine)

-- The arrays decoded state the file's problem with their own variables.
pub own_posed : (f : List ℕ) (A : Arrays) (g : FileGiven f A) → PosesOwn (problem_of f g.fine) A
own_posed f A g =
    let e : A.n ≡ A.own = sym g.poses.states.size ∙ problem_size f g.fine ∙ sym g.size in
    record { states = subst (λ (k : ℕ). States (problem_of f g.fine) k A) e g.poses.states; domain = given_domain f A g }

module _ (f : List ℕ) (p : Position) where
  -- Over a refused file.
  module _ (e : Fault) (q : verdict_of f ≡ Err e) where
    file-refused : {A : Type 0} (call : Problem → Result A Reason) → Err (InFile e) ≡ file_first f call
    unfolding file_first
    file-refused call = sym (read_refused f _ _ e q)

    pub play_refused : (a : ℕ) → Err (InFile e) ≡ play_file f p a
    unfolding play_file
    play_refused a = file-refused _

    pub take_back_refused : Err (InFile e) ≡ take_back_file f p
    unfolding take_back_file
    take_back_refused = file-refused _

    pub lock_refused : Err (InFile e) ≡ lock_file f p
    unfolding lock_file
    lock_refused = file-refused _

    pub unlock_refused : (k : ℕ) → Err (InFile e) ≡ unlock_file f p k
    unfolding unlock_file
    unlock_refused k = file-refused _

    pub open_refused : Err (InFile e) ≡ open_file f p
    unfolding open_file
    open_refused = file-refused _

  -- Over an accepted one a call is that in its problem.
  module _ (fine : verdict_of f ≡ Fine) where
    pub play_file_lem : (a : ℕ) → play_file f p a ≡ in_call (play_in (problem_of f fine).n (problem_of f fine).domain p a)
    unfolding play_file file_first
    play_file_lem a = read_fine f _ _ fine

    pub take_back_file_lem : take_back_file f p ≡ in_call (take_back_in (problem_of f fine).n (problem_of f fine).domain p)
    unfolding take_back_file file_first
    take_back_file_lem = read_fine f _ _ fine

    pub lock_file_lem : lock_file f p ≡ in_call (lock_in (problem_of f fine).n (problem_of f fine).domain p)
    unfolding lock_file file_first
    lock_file_lem = read_fine f _ _ fine

    pub unlock_file_lem : (k : ℕ) → unlock_file f p k ≡ in_call (unlock_in (problem_of f fine).n (problem_of f fine).domain p k)
    unfolding unlock_file file_first
    unlock_file_lem k = read_fine f _ _ fine

    pub open_file_lem : open_file f p ≡ in_call (open_in (problem_of f fine) p)
    unfolding open_file file_first
    open_file_lem = read_fine f _ _ fine

    pub open_read : (r : Result Opened Reason) → r ≡ open_in (problem_of f fine) p → in_call r ≡ open_file f p
    open_read r q = ap in_call q ∙ sym open_file_lem

  -- The reading of a file of bytes shows the domains of its problem, so a call over these is the one over the file.
  module _ (D : List ℕ) (h : Head) (bytes : (k : ℕ) → get_or f k 0 < 256) (s : Shows f h) (d : D ≡ domains_of f) where
    domains_of_lem : DomainsOf (problem_of f s.fine) h.n D
    domains_of_lem = record {
      size = problem_size f s.fine ∙ sym s.variables;
      domain = λ i b.
          ap (λ (l : List ℕ). get_or l i 0) (problem_domains f s.fine bytes)
          ∙ get_or-take (n_of f) (domains_of f) i 0 (omega (arith, s.variables))
          ∙ ap (λ (l : List ℕ). get_or l i 0) (sym d);
    }

    pub play_read : (a : ℕ) (r : Result Position Reason) → r ≡ play_in h.n D p a → in_call r ≡ play_file f p a
    play_read a r e = ap in_call (e ∙ play_same _ h.n D domains_of_lem p a) ∙ sym (play_file_lem s.fine a)

    pub take_back_read : (r : Result Position Reason) → r ≡ take_back_in h.n D p → in_call r ≡ take_back_file f p
    take_back_read r e = ap in_call (e ∙ take_back_same _ h.n D domains_of_lem p) ∙ sym (take_back_file_lem s.fine)

    pub lock_read : (r : Result Position Reason) → r ≡ lock_in h.n D p → in_call r ≡ lock_file f p
    lock_read r e = ap in_call (e ∙ lock_same _ h.n D domains_of_lem p) ∙ sym (lock_file_lem s.fine)

    pub unlock_read : (k : ℕ) (r : Result Position Reason) → r ≡ unlock_in h.n D p k → in_call r ≡ unlock_file f p k
    unlock_read k r e = ap in_call (e ∙ unlock_same _ h.n D domains_of_lem p k) ∙ sym (unlock_file_lem s.fine k)

  -- What a reply tells and leaves.
  pub play_shown : (a : ℕ) (r : Result Position Refusal) → r ≡ play_file f p a → (told r ≡ play_told f p a) × (left p r ≡ play_left f p a)
  unfolding play_told play_left
  play_shown a r e = (ap told e, ap (left p) e)

  pub take_back_shown : (r : Result Position Refusal) → r ≡ take_back_file f p → (told r ≡ take_back_told f p) × (left p r ≡ take_back_left f p)
  unfolding take_back_told take_back_left
  take_back_shown r e = (ap told e, ap (left p) e)

  pub lock_shown : (r : Result Position Refusal) → r ≡ lock_file f p → (told r ≡ lock_told f p) × (left p r ≡ lock_left f p)
  unfolding lock_told lock_left
  lock_shown r e = (ap told e, ap (left p) e)

  pub unlock_shown : (k : ℕ) (r : Result Position Refusal) → r ≡ unlock_file f p k → (told r ≡ unlock_told f p k) × (left p r ≡ unlock_left f p k)
  unfolding unlock_told unlock_left
  unlock_shown k r e = (ap told e, ap (left p) e)

  pub open_shown : (r : Result Opened Refusal) → r ≡ open_file f p → (told_opened r ≡ open_told f p) × (masks_in r ≡ masks_shown f p) × (counts_in r ≡ counts_shown f p)
  unfolding open_told masks_shown counts_shown
  open_shown r e = (ap told_opened e, ap masks_in e, ap counts_in e)
