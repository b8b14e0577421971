-- Calls on G1 of document 01, computed from the definitions: rows of G9 and G10, values that are no options at any width, locks and unlocks, and what
-- the plain list says of a call; and open values where nothing is usable.
use mathlib.Core.Path.{◌≡◌, refl}
use mathlib.Core.List.{List, [], ◌∷◌}
use Prim.Native.Nat.{ℕ, ◌+◌, ◌^◌}
use lib.Dec.{eqb}
use Rattle.mask.specs.Range.{some, each, count}
use Rattle.mask.specs.Mask.{bit, mask_of}
use Rattle.std.specs.Prelude.{Result, Ok, Err}
use Rattle.refusal.specs.declared.reason.Reason.{Reason}
use Rattle.refusal.specs.declared.reason.Reason.TheVariants.{Value, Full, Bare, Misfit, Locked, Depth}
use Rattle.refusal.specs.Chain.{◌then◌, need}
use Rattle.refusal.specs.Told.{Told, replied, refused as refused_by, in_call}
use Rattle.refusal.specs.Replied.{passed}
use Rattle.game.specs.Lists.{domains, list_of, masks_of, spread}
use Rattle.game.specs.Problem.{Problem}
use Rattle.game.specs.Calls.{Call, plain, play, take_back, lock, unlock}
use Rattle.game.specs.Support.{clashes}
use Rattle.game.specs.Open.{goes_with_plays, plays_clash, existential_empty, universal_clash, stuck, is_open, open_values, open_counts}
use Rattle.theory.proofs.Small.{mk_problem}
use Rattle.theory.proofs.Samples.{differ, G1, G2, G6}
use Rattle.position.specs.Position.{shown, plays_of, pushed, popped, held, place_fits, fits_at, fits_in, fit_test}
use Rattle.position.specs.declared.Position.{Position}
use Rattle.session.specs.declared.Opened.{Opened}
use Rattle.session.specs.Plays.{play_test, take_back_test, unlock_test, play_in, take_back_in, lock_in, unlock_in}
use Rattle.session.specs.Opening.{opened_after, open_in}
use Rattle.session.specs.Told.{left}
use Rattle.session.specs.History.{list_told}

-- A reply, and the position that it leaves.
abbrev Replies : Type 0
Replies = Result Position Reason × Position

-- The reply at the position with these plays, the first d of them held.
abbrev replies : List ℕ → ℕ → (Position → Result Position Reason) → Replies
replies l d call = let p = shown d l in (call p, left p (in_call (call p)))

abbrev played : List ℕ → ℕ → Replies
played l a = replies l 0 (λ p. play_in G1.n G1.domain p a)

abbrev taken_back : List ℕ → ℕ → Replies
taken_back l d = replies l d (take_back_in G1.n G1.domain)

abbrev locked : List ℕ → ℕ → Replies
locked l d = replies l d (lock_in G1.n G1.domain)

abbrev unlocked : List ℕ → (d k : ℕ) → Replies
unlocked l d k = replies l d (λ p. unlock_in G1.n G1.domain p k)

abbrev done : List ℕ → ℕ → Replies
done l d = (Ok (shown d l), shown d l)

abbrev refused : Reason → List ℕ → ℕ → Replies
refused e l d = (Err e, shown d l)

-- G10 and plays around it: a value of 2, of 16, and one that is 0 when cut to a byte give 10; a full position gives 20 first.
plays : (played [] 0 ≡ done (0 ∷ []) 0) × (played (0 ∷ []) 0 ≡ done (0 ∷ 0 ∷ []) 0) × (played [] 2 ≡ refused Value [] 0) × (played [] 16 ≡ refused Value [] 0)
    × (played [] 256 ≡ refused Value [] 0) × (played (0 ∷ 0 ∷ []) 2 ≡ refused Full (0 ∷ 0 ∷ []) 0)
unfolding each bit need ◌then◌ spread shown pushed place_fits fits_at fits_in passed left fit_test play_test play_in
plays = (refl, refl, refl, refl, refl, refl)

-- A take-back, and one of a fresh position.
backs : (taken_back (0 ∷ 1 ∷ []) 0 ≡ done (0 ∷ []) 0) × (taken_back (0 ∷ []) 0 ≡ done [] 0) × (taken_back [] 0 ≡ refused Bare [] 0)
unfolding each bit need ◌then◌ spread shown popped place_fits fits_at fits_in passed left fit_test take_back_test take_back_in
backs = (refl, refl, refl)

-- G1 after 0 and a lock: a take-back gives 24, an unlock to 2, or to 1 and 2^64 more, 25; an unlock to 0 is done, and a take-back after it reaches the fresh
-- position. Above the depth a take-back is done, and the depth stays.
locks : (locked (0 ∷ []) 0 ≡ done (0 ∷ []) 1) × (locked (0 ∷ []) 1 ≡ done (0 ∷ []) 1) × (locked (0 ∷ 1 ∷ []) 1 ≡ done (0 ∷ 1 ∷ []) 2) × (taken_back (0 ∷ []) 1 ≡ refused Locked (0 ∷ []) 1)
    × (unlocked (0 ∷ []) 1 2 ≡ refused Depth (0 ∷ []) 1) × (unlocked (0 ∷ []) 1 (1 + 2 ^ 64) ≡ refused Depth (0 ∷ []) 1) × (unlocked (0 ∷ []) 1 1 ≡ done (0 ∷ []) 1)
    × (unlocked (0 ∷ []) 1 0 ≡ done (0 ∷ []) 0) × (unlocked (0 ∷ 1 ∷ []) 1 2 ≡ refused Depth (0 ∷ 1 ∷ []) 1) × (taken_back (0 ∷ 1 ∷ []) 1 ≡ done (0 ∷ []) 1)
    × (taken_back (0 ∷ []) 0 ≡ done [] 0)
unfolding each bit need ◌then◌ spread shown popped held place_fits fits_at fits_in passed left fit_test take_back_test unlock_test take_back_in lock_in unlock_in
locks = (refl, refl, refl, refl, refl, refl, refl, refl, refl, refl, refl)

-- A misfit gives 23 before anything else, and is returned as it is: a value that is none, too many plays, more held than played.
misfit : (played (5 ∷ []) 9 ≡ refused Misfit (5 ∷ []) 0) × (taken_back (0 ∷ 1 ∷ 0 ∷ []) 0 ≡ refused Misfit (0 ∷ 1 ∷ 0 ∷ []) 0) × (taken_back [] 1 ≡ refused Misfit [] 1)
    × (locked (0 ∷ []) 2 ≡ refused Misfit (0 ∷ []) 2) × (unlocked (0 ∷ []) 2 3 ≡ refused Misfit (0 ∷ []) 2)
unfolding each bit need ◌then◌ spread shown place_fits fits_at fits_in passed left fit_test play_test take_back_test unlock_test play_in take_back_in lock_in unlock_in
misfit = (refl, refl, refl, refl, refl)

opening : Unit {0}
unfolding some clashes goes_with_plays plays_clash existential_empty universal_clash stuck is_open open_values open_counts
opening = tt

-- G9: after 0 the open values of variable 1 are {1}; the same shown of a fresh position, and of plays that clash.
abbrev opened : List ℕ → List ℕ → Result Opened Reason
opened masks counts = Ok record { masks = spread masks; counts = spread counts }

opens : (open_in G1 (shown 0 (0 ∷ [])) ≡ opened (1 ∷ 2 ∷ []) (1 ∷ 1 ∷ [])) × (open_in G1 (shown 0 []) ≡ opened (3 ∷ 3 ∷ []) (2 ∷ 2 ∷ []))
    × (open_in G1 (shown 0 (0 ∷ 0 ∷ [])) ≡ opened (1 ∷ 1 ∷ []) (1 ∷ 1 ∷ []))
unfolding each count bit mask_of need domains list_of masks_of opening shown plays_of place_fits fits_at fits_in passed fit_test spread opened_after open_in
opens = (refl, refl, refl)

-- Nothing usable, and a played variable shows its value (document 02, card 3): G2 after 0, where 0 clashes with a value of the universal
-- variable; G6 after 1 and 0, where the existential variable has nothing; two plays that clash before a universal variable that no constraint
-- names.
abbrev clashing : Problem
clashing = mk_problem (λ i. eqb i 2) (3 ∷ 3 ∷ 3 ∷ []) tt (λ i j. eqb j 1) differ

stuck-opens : (open_in G2 (shown 0 (0 ∷ [])) ≡ opened (1 ∷ 0 ∷ []) (1 ∷ 0 ∷ [])) × (open_in G6 (shown 0 (1 ∷ 0 ∷ [])) ≡ opened (2 ∷ 1 ∷ 0 ∷ []) (1 ∷ 1 ∷ 0 ∷ []))
    × (open_in clashing (shown 0 (0 ∷ 0 ∷ [])) ≡ opened (1 ∷ 1 ∷ 0 ∷ []) (1 ∷ 1 ∷ 0 ∷ [])) × (open_in clashing (shown 0 (0 ∷ 1 ∷ [])) ≡ opened (1 ∷ 2 ∷ 3 ∷ []) (1 ∷ 1 ∷ 2 ∷ []))
unfolding each count bit mask_of need domains list_of masks_of opening shown plays_of place_fits fits_at fits_in passed fit_test spread opened_after open_in
stuck-opens = (refl, refl, refl, refl)

-- What the plain list says of the next call: 24 at the depth, 21 before it where nothing stands, 25 above the depth.
abbrev says : List ℕ → ℕ → Call → Told
says l d c = list_told G1 (plain l d) c

telling : (says (0 ∷ []) 1 take_back ≡ refused_by 24) × (says [] 0 take_back ≡ refused_by 21) × (says (0 ∷ 1 ∷ []) 1 take_back ≡ replied []) × (says (0 ∷ []) 1 (unlock 2) ≡ refused_by 25)
    × (says (0 ∷ []) 1 (unlock 1) ≡ replied []) × (says (0 ∷ []) 0 lock ≡ replied []) × (says (0 ∷ []) 1 (play 2) ≡ refused_by 10) × (says (0 ∷ 1 ∷ []) 2 (play 2) ≡ refused_by 20)
unfolding bit domains list_told
telling = (refl, refl, refl, refl, refl, refl, refl, refl)
