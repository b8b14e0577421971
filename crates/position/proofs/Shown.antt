-- A play added to the plays that a position shows, and the last of them taken back.
use mathlib.Core.Path.{◌≡◌, refl, sym, ap, ap₂}
use mathlib.Core.List.{List, [], ◌∷◌, ◌++◌}
use Prim.Native.Nat.{ℕ, suc, ◌-◌, ◌<◌, ◌≤◌}
use native.Mathlib.Omega.{arith}
use lib.ListN.{length, replicate, set, length-append}
use lib.Seq.{take-append_seam}
use Rattle.game.specs.Lists.{spread}
use Rattle.game.specs.Calls.{without_last}
use Rattle.theory.proofs.SpreadLaws.{spread-next}
use Rattle.theory.proofs.Standing.{length-without_last}
use Rattle.position.specs.Position.{shown, plays_of, pushed, popped}

-- The plays of a position that shows l are l.
pub plays_shown : (d : ℕ) (l : List ℕ) → plays_of (shown d l) ≡ l
unfolding plays_of shown spread
plays_shown d l = take-append_seam l (replicate (32 - length l) 0)

-- A play is the last of the plays shown next.
pub pushed-shown : (d : ℕ) (l : List ℕ) (a : ℕ) → length l < 32 → pushed (shown d l) a ≡ shown d (l ++ (a ∷ []))
unfolding pushed shown
pushed-shown d l a h = ap₂ (λ (k : ℕ) (v : List ℕ). record { plays = k; depth = d; values = v }) (sym (length-append l (a ∷ []))) (spread-next l a h)

set_last : (x : ℕ) (l r : List ℕ) → set (x ∷ l ++ r) (length l) 0 ≡ without_last (x ∷ l) ++ 0 ∷ r
unfolding without_last
set_last x [] r = refl
set_last x (y ∷ l) r = ap (λ (v : List ℕ). x ∷ v) (set_last y l r)

popped_cons : (d x : ℕ) (l : List ℕ) → length l < 32 → popped (shown d (x ∷ l)) ≡ shown d (without_last (x ∷ l))
unfolding popped shown spread
popped_cons d x l h =
    let e : 32 - length l ≡ suc (32 - suc (length l)) = omega arith in
    let o : suc (length l) - 1 ≡ length l = omega arith in
    rw (o, length-without_last x l, e) (ap (λ (v : List ℕ). record { plays = length l; depth = d; values = v }) (set_last x l _))

-- A take-back leaves all plays shown but the last.
pub popped-shown : (d : ℕ) (l : List ℕ) → 1 ≤ length l → length l ≤ 32 → popped (shown d l) ≡ shown d (without_last l)
popped-shown d [] h k = absurd (omega arith)
popped-shown d (x ∷ l) h k = popped_cons d x l (omega arith)
