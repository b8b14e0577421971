-- A position that fits shows its plays and its depth, and the plays are legal; legal plays, no more of them held, are shown by a position that
-- fits. Which depth it is does not matter to the test.
use mathlib.Core.Bool.{Bool, true, false, ◌&&◌, and-false}
use mathlib.Core.Path.{◌≡◌, refl, sym, ap, ap₂, subst, ◌∙◌}
use mathlib.Core.List.{List, [], ◌∷◌, ◌++◌}
use Prim.Native.Nat.{ℕ, suc, ◌+◌, ◌-◌, ◌<◌, ◌≤◌}
use native.Mathlib.Omega.{arith}
use lib.Dec.{T, eqb, leb}
use lib.ListN.{get_or, length, take, drop, replicate, take-append-drop, length-drop, get_or-eq_default}
use lib.Seq.{length-take-le, get_or-drop, get_or-take}
use borrow.Author.Tests.{lt-ltb, le-ltb, leb-true, le-leb, lt-leb, eqb-true}
use Rattle.mask.specs.Range.{each}
use Rattle.mask.specs.Mask.{bit}
use Rattle.mask.proofs.Logic.{same, holds, true_holds, clash, by_lt, and_in, and_out}
use Rattle.mask.proofs.Bits.{bit_high}
use Rattle.mask.proofs.Range.{each_in, each_out}
use Rattle.game.specs.Problem.{Problem}
use Rattle.game.specs.Lists.{domains, spread}
use Rattle.game.specs.Position.{legal}
use Rattle.theory.proofs.SpreadLaws.{get_d_spread}
use Rattle.position.specs.declared.Position.{Position}
use Rattle.position.specs.Position.{shown, held, plays_of, place_fits, fits_at, fits_in}

-- A list of zeros only.
zeros : (l : List ℕ) → ((i : ℕ) → i < length l → get_or l i 0 ≡ 0) → l ≡ replicate (length l) 0
zeros [] h = refl
zeros (x ∷ l) h = ap₂ (λ (y : ℕ) (t : List ℕ). y ∷ t) (h 0 (omega arith)) (zeros l (λ i k. h (suc i) (omega arith)))

pub get_d_plays : (p : Position) (j : ℕ) → j < p.plays → get_or (plays_of p) j 0 ≡ get_or p.values j 0
unfolding plays_of
get_d_plays p j h = get_or-take p.plays p.values j 0 h

-- The test of a place by cases.
pub place-played : (plays i m value : ℕ) → i < plays → place_fits plays i m value ≡ bit m value
unfolding place_fits
place-played plays i m value h = rw (lt-ltb i plays h)

pub place_unplayed : (plays i m value : ℕ) → plays ≤ i → place_fits plays i m value ≡ eqb value 0
unfolding place_fits
place_unplayed plays i m value h = rw (le-ltb i plays h)

-- Value j of a list is in mask j.
abbrev among : List ℕ → List ℕ → ℕ → Bool
among masks l j = bit (get_or masks j 0) (get_or l j 0)

-- The tests of all 32 places decide where there are no more than n plays, and no more held than these.
pub fits-few : (p : Position) (n : ℕ) (masks : List ℕ) (r : Bool) → p.plays ≤ n → p.depth ≤ p.plays → r ≡ each 32 (λ j. true) (fits_at p masks) → r ≡ fits_in p n masks
unfolding fits_in
fits-few p n masks r h d e = rw (le-leb p.plays n h, le-leb p.depth p.plays d) e

-- The three parts together.
fits_by : (p : Position) (n : ℕ) (masks : List ℕ) → p.plays ≤ n → p.depth ≤ p.plays → ((i : ℕ) → i < 32 → T (fits_at p masks i)) → T (fits_in p n masks)
fits_by p n masks few deep h =
    subst (λ (b : Bool). T b) (fits-few p n masks _ few deep refl) (each_in 32 (λ i. true) (fits_at p masks) (λ i b _. h i b))

-- More plays than variables do not fit, nor more held than played.
pub plays_above : (p : Position) (n : ℕ) (masks : List ℕ) → n < p.plays → fits_in p n masks ≡ false
unfolding fits_in
plays_above p n masks k = rw (lt-leb p.plays n k) refl

pub depth_above : (p : Position) (n : ℕ) (masks : List ℕ) → p.plays < p.depth → fits_in p n masks ≡ false
unfolding fits_in
depth_above p n masks k = rw (lt-leb p.depth p.plays k) (and-false (leb p.plays n))

-- Two depths that fit are the same to the test.
pub fits_any_depth : (p : Position) (d n : ℕ) (masks : List ℕ) → p.depth ≤ p.plays → d ≤ p.plays → fits_in (held p d) n masks ≡ fits_in p n masks
unfolding fits_in fits_at held
fits_any_depth p d n masks h k = rw (le-leb p.depth p.plays h, le-leb d p.plays k)

-- A play that fits is below 16.
pub played_small : (plays i m value : ℕ) → m < 65536 → i < plays → T (place_fits plays i m value) → value < 16
played_small plays i m value b h t = by_lt value 16 (λ k. k) (λ k. absurd (clash (bit_high 16 m value b k) (rw (place-played plays i m value h) at t)))

module _ (p : Position) (n : ℕ) (masks : List ℕ) (t : T (fits_in p n masks)) where
  -- The three parts of the test.
  parts : T (leb p.plays n) × T (leb p.depth p.plays) × T (each 32 (λ i. true) (fits_at p masks))
  unfolding fits_in
  parts =
      let r = and_out (leb p.plays n) (leb p.depth p.plays && each 32 (λ i. true) (fits_at p masks)) t in
      let q = and_out (leb p.depth p.plays) (each 32 (λ i. true) (fits_at p masks)) r.1 in
      (r.0, q.0, q.1)

  pub fits_plays : p.plays ≤ n
  fits_plays = leb-true p.plays n (holds parts.0)

  pub fits_depth : p.depth ≤ p.plays
  fits_depth = leb-true p.depth p.plays (holds parts.1)

  pub fits_at_lem : (i : ℕ) → i < 32 → T (fits_at p masks i)
  fits_at_lem i h = each_out 32 (λ i. true) (fits_at p masks) parts.2 i h tt

  -- A play is in its mask; an unplayed place is zero.
  fits-played : (i : ℕ) → i < 32 → i < p.plays → T (bit (get_or masks i 0) (get_or p.values i 0))
  unfolding fits_at
  fits-played i h k = rw (place-played _ _ _ _ k) at (fits_at_lem i h)

  fits_unplayed : (i : ℕ) → i < 32 → p.plays ≤ i → get_or p.values i 0 ≡ 0
  unfolding fits_at
  fits_unplayed i h k = eqb-true _ _ (holds (rw (place_unplayed _ _ _ _ k) at (fits_at_lem i h)))

  module _ (small : n ≤ 32) (long : length p.values ≡ 32) where
    pub length_plays : length (plays_of p) ≡ p.plays
    unfolding plays_of
    length_plays = let k = fits_plays in length-take-le p.plays p.values (omega arith)

    -- A position that fits shows its plays and its depth.
    pub fits-shown : shown p.depth (plays_of p) ≡ p
    unfolding shown plays_of spread
    fits-shown =
        let k = fits_plays in
        let d : length (drop p.plays p.values) ≡ 32 - p.plays = length-drop p.plays p.values ∙ ap (λ (m : ℕ). m - p.plays) long in
        let z : drop p.plays p.values ≡ replicate (32 - p.plays) 0 = zeros (drop p.plays p.values)
        (λ i h. get_or-drop p.plays p.values i 0 ∙ fits_unplayed (p.plays + i) (omega arith) (omega arith)) ∙ ap (λ (m : ℕ). replicate m 0) d in
        rw length_plays (ap (λ (v : List ℕ). record { plays = p.plays; depth = p.depth; values = v })
        (ap (λ (v : List ℕ). take p.plays p.values ++ v) (sym z) ∙ take-append-drop p.plays p.values))

    -- They are legal in every problem over these masks.
    pub fits-legal : (P : Problem) → P.n ≡ n → P.domain ≡ take n masks → T (legal P (plays_of p))
    unfolding legal domains
    fits-legal P e f =
        rw (length_plays, e, f) (and_in (leb p.plays n) (each p.plays (λ j. true) (among (take n masks) (plays_of p)))
        (true_holds (le-leb p.plays n fits_plays))
        (each_in p.plays (λ j. true) (among (take n masks) (plays_of p)) (λ j h _. inside j h)))
      where
        inside : (j : ℕ) → j < p.plays → T (among (take n masks) (plays_of p) j)
        inside j h =
            let k = fits_plays in
            let a : get_or (take n masks) j 0 ≡ get_or masks j 0 = get_or-take n masks j 0 (omega arith) in
            rw (a, get_d_plays p j h) (fits-played j (omega arith) h)

-- A position that shows legal plays, and no more of them held, fits.
pub legal-fits : (P : Problem) (n : ℕ) (masks l : List ℕ) (d : ℕ) → P.n ≡ n → P.domain ≡ take n masks → T (legal P l) → d ≤ length l → T (fits_in (shown d l) n masks)
unfolding legal domains fits_in fits_at shown
legal-fits P n masks l d e f t deep = fits_by (shown d l) n masks few deep (λ i _. by_lt i (length l) (played i) (unplayed i))
  where
    parts : T (leb (length l) P.n) × T (each (length l) (λ j. true) (among P.domain l))
    parts = and_out (leb (length l) P.n) (each (length l) (λ j. true) (among P.domain l)) t

    few : length l ≤ n
    few = let k = leb-true (length l) P.n (holds parts.0) in omega arith

    played : (i : ℕ) → i < length l → T (fits_at (shown d l) masks i)
    played i h =
        let a : get_or (take n masks) i 0 ≡ get_or masks i 0 = get_or-take n masks i 0 (omega (arith, few)) in
        let b = each_out (length l) (λ j. true) (among P.domain l) parts.1 i h tt in
        rw (place-played (length l) i _ _ h, get_d_spread l i) (rw (f, a) at b)

    unplayed : (i : ℕ) → length l ≤ i → T (fits_at (shown d l) masks i)
    unplayed i h = rw (place_unplayed (length l) i _ _ h, get_d_spread l i, get_or-eq_default l 0 {n = i} h) tt

-- The test of a place over other domains: the same mask there, or no play.
place_same : (p : Position) (D E : List ℕ) (i : ℕ) → get_or D i 0 ≡ get_or E i 0 → T (fits_at p D i) → T (fits_at p E i)
unfolding fits_at
place_same p D E i e u = rw e at u

place_zero : (p : Position) (D E : List ℕ) (i : ℕ) → p.plays ≤ i → T (fits_at p D i) → T (fits_at p E i)
unfolding fits_at
place_zero p D E i e u = rw (place_unplayed p.plays i (get_or E i 0) (get_or p.values i 0) e) (rw (place_unplayed p.plays i (get_or D i 0) (get_or p.values i 0) e) at u)

-- A position that fits n variables fits more of them, over domains that agree on the n: it has no play from n on.
pub fits_more : (p : Position) (n all : ℕ) (D E : List ℕ) → T (fits_in p n D) → n ≤ all → ((i : ℕ) → i < n → get_or D i 0 ≡ get_or E i 0) → T (fits_in p all E)
unfolding fits_in
fits_more p n all D E t m h =
    let few = fits_plays p n D t in
    fits_by p all E (omega arith) (fits_depth p n D t)
    (λ i l. by_lt i n (λ k. place_same p D E i (h i k) (fits_at_lem p n D t i l)) (λ k. place_zero p D E i (omega arith) (fits_at_lem p n D t i l)))

-- Domains that agree on the n variables fit the same positions.
pub fits_same : (p : Position) (n : ℕ) (D E : List ℕ) → ((i : ℕ) → i < n → get_or D i 0 ≡ get_or E i 0) → fits_in p n D ≡ fits_in p n E
fits_same p n D E h = same (fits_in p n D) (fits_in p n E) (λ t. fits_more p n n D E t (omega arith) h)
    (λ t. fits_more p n n E D t (omega arith) (λ i l. sym (h i l)))
