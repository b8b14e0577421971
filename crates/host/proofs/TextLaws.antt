-- A text at the front of a line, and what a call tells that is handed no file.
use mathlib.Core.Path.{◌≡◌, ap, ◌∙◌}
use mathlib.Core.List.{List, [], ◌∷◌, ◌++◌}
use Prim.Native.Nat.{ℕ}
use lib.ListN.{length, take}
use lib.Seq.{take-append_seam}
use Rattle.std.specs.Prelude.{Result, Ok, Err, MatchResult, IsErrAnd}
use Rattle.refusal.specs.declared.reason.Reason.{Reason}
use Rattle.refusal.specs.declared.reason.Refusal.{Refusal}
use Rattle.refusal.specs.declared.reason.Refusal.TheVariants.{InCall}
use Rattle.refusal.specs.Told.{told_by, reason_told, refusal_told}

pub front : (k : ℕ) (text rest line : List ℕ) → k ≡ length text → line ≡ text ++ rest → take k line ≡ text
front k text rest line e h = ap (λ (n : ℕ). take n line) e ∙ ap (λ (l : List ℕ). take (length text) l) h ∙ take-append_seam text rest

-- A call without a file tells the same as one with a file.
pub told-in_call : (r : Result ℕ Reason) (s : Result ℕ Refusal) → MatchResult r (λ k. s ≡ Ok k) (λ e. IsErrAnd s (λ d. d ≡ InCall e))
    → told_by (λ k. k ∷ []) refusal_told s ≡ told_by (λ k. k ∷ []) reason_told r
told-in_call (Ok k) s h = ap (told_by (λ k. k ∷ []) refusal_told) h
told-in_call (Err e) (Ok k) h = absurd h
told-in_call (Err e) (Err d) h = ap refusal_told h
