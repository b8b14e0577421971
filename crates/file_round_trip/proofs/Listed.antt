-- Lists of three-way constraints, record behind record: of a list joined from whole records, where each begins and how many there are; and
-- any list of whole records is those records, joined.
use Prim.Native.Nat.{ℕ, zero, suc, ◌+◌, ◌*◌, ◌≤◌, ◌<◌}
use mathlib.Core.Path.{◌≡◌, refl, sym, ap, ◌∙◌}
use mathlib.Core.List.{List}
use lib.ListN.{length, get_or, length-append}
use native.Mathlib.Nat.{le_refl}
use native.Mathlib.Omega.{arith}
use Rattle.buffer.specs.Stored.{joined}
use Rattle.buffer.proofs.StoredLaws.{InRow, length-joined}
use Rattle.file_bytes.specs.Bytes.{from, size_in, start_in, count_in}
use Rattle.file_bytes.proofs.WalkLaws.{size_least, start_first, start_next, one_counted, all_counted, stands}
use Rattle.file_round_trip.proofs.Held.{StandsAt, whole, joined_in}
use Rattle.file_lookup.specs.Part.{part}
use Rattle.file_lookup.proofs.PartLaws.{length-part}
use Rattle.file_round_trip.proofs.Parts.{part_all, joined-part}

-- Each of the first t lists has as many numbers as its fourth number says.
module _ (g : ℕ → List ℕ) (t : ℕ) (sized : (q : ℕ) → q < t → length (g q) ≡ 4 + 3 * get_or (g q) 3 0) where
  abbrev X : List ℕ
  X = joined g t

  ends : InRow g 0 (λ q. length (joined g q)) t
  unfolding joined
  ends = record { first = refl; next = λ q h. length-append (joined g q) (g q) }

  stands_in : (q : ℕ) → q < t → StandsAt X (length (joined g q)) (g q)
  stands_in q h = joined_in X g 0 _ t q ends (whole X) h

  size_there : (q : ℕ) → q < t → size_in X (length (joined g q)) ≡ length (g q)
  unfolding size_in
  size_there q h = omega (arith, sized q h, (stands_in q h).same 3 (omega (arith, sized q h)))

  -- Record q begins behind those before it, and is g q.
  start_is : (q : ℕ) → q ≤ t → start_in X q ≡ length (joined g q)
  unfolding joined
  start_is zero h = start_first X
  start_is (suc q) h =
      let e = start_is q (omega arith) in
      let s : size_in X (start_in X q) ≡ length (g q) = rw e (size_there q h) in
      start_next X q ∙ omega (arith, e, s, length-append (joined g q) (g q))

  stands_there : (q : ℕ) → q < t → StandsAt X (start_in X q) (g q)
  stands_there q h = rw (start_is q (omega arith)) (stands_in q h)

  pub size_is : (q : ℕ) → q < t → size_in X (start_in X q) ≡ length (g q)
  size_is q h = rw (start_is q (omega arith)) (size_there q h)

  pub number_there : (q x : ℕ) → q < t → x < length (g q) → from X (start_in X q) x ≡ get_or (g q) x 0
  number_there q x h l = (stands_there q h).same x l

  -- There are t of them, and they are the whole list.
  counted_to : (q : ℕ) → q ≤ t → q ≤ count_in X
  counted_to zero h = omega arith
  counted_to (suc q) h = one_counted X q (counted_to q (omega arith)) (omega (arith, (stands_there q h).long, size_is q h))

  pub count_is : count_in X ≡ t
  count_is = sym (all_counted X t (counted_to t (le_refl t)) (omega (arith, start_is t (le_refl t), size_least X (start_in X t))))

  pub whole_is : start_in X (count_in X) ≡ length X
  whole_is = ap (start_in X) count_is ∙ start_is t (le_refl t)

module _ (xs : List ℕ) (e : start_in xs (count_in xs) ≡ length xs) where
  -- Record q of a list of whole records.
  abbrev pub record_of : ℕ → List ℕ
  record_of q = part xs (start_in xs q) (size_in xs (start_in xs q))

  length_record : (q : ℕ) → q < count_in xs → length (record_of q) ≡ size_in xs (start_in xs q)
  length_record q h = length-part xs (start_in xs q) (size_in xs (start_in xs q)) (stands xs q (count_in xs) h (le_refl (count_in xs))).0

  records : InRow record_of 0 (start_in xs) (count_in xs)
  records = record { first = start_first xs; next = λ q h. omega (arith, start_next xs q, length_record q h) }

  pub records_joined : joined record_of (count_in xs) ≡ xs
  records_joined =
      joined-part xs record_of 0 (start_in xs) (count_in xs) records (λ q h. ap (part xs (start_in xs q)) (sym (length_record q h)))
      ∙ part_all xs _ (omega (arith, e, length-joined record_of 0 (start_in xs) (count_in xs) records))
