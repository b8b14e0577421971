-- Document 02, card 6: "Marks and open options don't depend on it"; nor do verdicts and what a search finds. At two positions that differ in
-- depths that fit and in nothing else, marking, open values, judging and a search reply the same, whatever the file.
use mathlib.Core.Path.{◌≡◌, refl, ap, fun_ext}
use mathlib.Core.List.{List}
use Prim.Native.Nat.{ℕ, ◌≤◌}
use Rattle.std.specs.Prelude.{Result, Err}
use Rattle.refusal.specs.declared.reason.Refusal.{Refusal}
use Rattle.refusal.specs.declared.reason.Refusal.TheVariants.{InFile}
use Rattle.refusal.specs.Told.{Told, fault_told, in_call}
use Rattle.game.specs.Problem.{Problem}
use Rattle.game.specs.Ternary.{TernaryProblem}
use Rattle.file_decoder.specs.Read.{read_first, read_ternary}
use Rattle.position.specs.declared.Position.{Position}
use Rattle.position.specs.Position.{held, plays_of, fits_in, fit_test}
use Rattle.position.proofs.Fitting.{fits_any_depth}
use Rattle.session.specs.declared.Opened.{Opened}
use Rattle.session.specs.Opening.{open_in}
use Rattle.session.specs.Files.{file_first, open_file}
use Rattle.session.specs.Told.{told_opened, masks_in, counts_in, open_told, masks_shown, counts_shown}
use Rattle.judging.specs.Tests.{position_test, judge_test}
use Rattle.judging.specs.Judging.{judge_reply, judge_told}
use Rattle.judging.specs.Searching.{Findings, nothing, search_findings, search_reply, search_found}
use Rattle.marking.specs.Marking.{mark_test, mark_reply, mark_told}

module _ (p : Position) (d : ℕ) (now : p.depth ≤ p.plays) (next : d ≤ p.plays) where
  -- Over a problem.
  module _ (P : Problem) where
    fits_either : fits_in (held p d) P.n P.domain ≡ fits_in p P.n P.domain
    fits_either = fits_any_depth p d P.n P.domain now next

    open_same : open_in P (held p d) ≡ open_in P p
    unfolding open_in fit_test plays_of held
    open_same = rw fits_either refl

  -- Over a problem with three-way constraints.
  module _ (J : TernaryProblem) where
    judge_same : (set words : ℕ) → judge_reply J (held p d) set words ≡ judge_reply J p set words
    unfolding judge_reply judge_test position_test plays_of held
    judge_same set words = rw (fits_either J.binary) refl

    mark_same : (set words : ℕ) → mark_reply J (held p d) set words ≡ mark_reply J p set words
    unfolding mark_reply mark_test position_test plays_of held
    mark_same set words = rw (fits_either J.binary) refl

    search_same : (set words : ℕ) → search_reply J (held p d) set words ≡ search_reply J p set words
    unfolding search_reply search_findings judge_test position_test plays_of held
    search_same set words = rw (fits_either J.binary) refl

  -- Over a file, whatever it is.
  module _ (f : List ℕ) where
    open_file_same : open_file f (held p d) ≡ open_file f p
    unfolding open_file file_first
    open_file_same = ap (λ (r : Problem → Result Opened Refusal). read_first f (λ e. Err (InFile e)) r) (fun_ext (λ P. ap in_call (open_same P)))

    pub open_any_depth : (open_told f (held p d) ≡ open_told f p) × (masks_shown f (held p d) ≡ masks_shown f p) × (counts_shown f (held p d) ≡ counts_shown f p)
    unfolding open_told masks_shown counts_shown
    open_any_depth = (ap told_opened open_file_same, ap masks_in open_file_same, ap counts_in open_file_same)

    module _ (set words : ℕ) where
      pub judge_any_depth : judge_told f (held p d) set words ≡ judge_told f p set words
      unfolding judge_told
      judge_any_depth = ap (λ (r : TernaryProblem → Told). read_ternary f fault_told r) (fun_ext (λ J. judge_same J set words))

      pub mark_any_depth : mark_told f (held p d) set words ≡ mark_told f p set words
      unfolding mark_told
      mark_any_depth = ap (λ (r : TernaryProblem → Told). read_ternary f fault_told r) (fun_ext (λ J. mark_same J set words))

      pub search_any_depth : search_found f (held p d) set words ≡ search_found f p set words
      unfolding search_found
      search_any_depth = ap (λ (r : TernaryProblem → Findings). read_ternary f (λ e. nothing (fault_told e)) r) (fun_ext (λ J. search_same J set words))
