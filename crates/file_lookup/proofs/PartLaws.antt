-- A part of a file: its bytes by their places, where the file has so many.
use Prim.Native.Nat.{ℕ, ◌+◌, ◌≤◌, ◌<◌}
use mathlib.Core.Path.{◌≡◌, ap, ◌∙◌}
use mathlib.Core.List.{List, []}
use lib.ListN.{length, get_or, drop, length-take, length-drop}
use lib.Seq.{get_or-take, get_or-drop}
use native.Mathlib.Omega.{arith}
use borrow.Author.Tests.{le-leb, lt-leb}
use Rattle.file_lookup.specs.Part.{part, part_at}

pub length-part : (f : List ℕ) (p k : ℕ) → p + k ≤ length f → length (part f p k) ≡ k
unfolding part
length-part f p k h = length-take k (drop p f) ∙ omega (arith, length-drop p f)

pub part-byte : (f : List ℕ) (p k a : ℕ) → a < k → get_or (part f p k) a 0 ≡ get_or f (p + a) 0
unfolding part
part-byte f p k a l = get_or-take k (drop p f) a 0 l ∙ get_or-drop p f a 0

pub part_short : (f : List ℕ) (p k : ℕ) → length f < p + k → part_at f p k ≡ []
unfolding part_at
part_short f p k h = rw (lt-leb _ _ h)

pub part_there : (f : List ℕ) (p k : ℕ) → p + k ≤ length f → part_at f p k ≡ part f p k
unfolding part_at
part_there f p k h = rw (le-leb _ _ h)

pub length_part : (f : List ℕ) (p k : ℕ) → p + k ≤ length f → length (part_at f p k) ≡ k
length_part f p k h = ap length (part_there f p k h) ∙ length-part f p k h

pub part_byte : (f : List ℕ) (p k a : ℕ) → p + k ≤ length f → a < k → get_or (part_at f p k) a 0 ≡ get_or f (p + a) 0
part_byte f p k a h l = ap (λ (x : List ℕ). get_or x a 0) (part_there f p k h) ∙ part-byte f p k a l
