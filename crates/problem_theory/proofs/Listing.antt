-- What the constraints of a problem are as numbers: 18 each, one for each pair that a constraint joins, ascending by their pairs.
use mathlib.Core.Path.{◌≡◌, refl, sym, ap, subst, ◌∙◌}
use mathlib.Core.List.{List}
use Prim.Native.Nat.{ℕ, zero, suc, ◌+◌, ◌*◌, ◌/◌, ◌%◌, ◌<◌}
use native.Mathlib.Nat.{add-zero}
use native.Mathlib.Omega.{arith}
use lib.Dec.{T}
use lib.ListN.{length, get_or}
use Rattle.mask.specs.Range.{count}
use Rattle.mask.proofs.Logic.{holds, and_out}
use Rattle.mask.proofs.Places.{at_place, place_above}
use Rattle.buffer.proofs.StoredLaws.{one_each, one_at}
use Rattle.buffer.proofs.ChosenLaws.{length_chosen, chosen_at}
use Rattle.file_layout.specs.Numbers.{in_order, pair_of}
use Rattle.file_layout.proofs.NumberLaws.{order_out}
use Rattle.file_bytes.specs.Bytes.{one_in, two_in, row_handed}
use Rattle.file_writer.specs.Tests.{pair_in, last_in}
use Rattle.game.specs.Problem.{Problem}
use Rattle.problem_numbers.specs.Numbers.{tied, row_of, constraint_numbers, is_pair, constraints_below, constraints_of, constraint_count}

-- Constraint t of the list is that of the pair with the number y.
pub record ListedAs (P : Problem) (cs : List ℕ) (t y : ℕ) : Type 0 where
  pub pair : T (is_pair P y)
  pub place : count y (is_pair P) ≡ t
  pub one : one_in cs t ≡ y / 32
  pub two : two_in cs t ≡ y % 32
  pub rows : (a : ℕ) → a < 16 → row_handed cs t a ≡ row_of P (y / 32) (y % 32) a

-- What is listed of the pairs below x: how many numbers; each pair at its place; at each place a pair; its number is above the one before it.
pub record Listing (P : Problem) (x : ℕ) : Type 0 where
  pub size : length (constraints_below P x) ≡ 18 * count x (is_pair P)
  pub listed : (y : ℕ) → y < x → T (is_pair P y) → ListedAs P (constraints_below P x) (count y (is_pair P)) y
  pub from : (t : ℕ) → t < count x (is_pair P) → (y : ℕ) × (y < x) × ListedAs P (constraints_below P x) t y
  pub above : (t : ℕ) → t < count x (is_pair P) → last_in (constraints_below P x) t < pair_in (constraints_below P x) t

module _ (P : Problem) where
  open P use {n}

  -- A pair that is listed is in order, and tied.
  pub pair_order : (y : ℕ) → T (is_pair P y) → (y / 32 < y % 32) × (y % 32 < n) × T (tied P (y / 32) (y % 32))
  unfolding is_pair
  pair_order y t =
      let s = and_out (in_order (y / 32) (y % 32) n) (tied P (y / 32) (y % 32)) t in
      let o = order_out _ _ _ (holds s.0) in
      (o.0, o.1, s.1)

  -- What is listed of a pair stands at its place, and every place is a pair's.
  abbrev numbers : ℕ → List ℕ
  numbers y = constraint_numbers P (y / 32) (y % 32)

  length_numbers : (y : ℕ) → length (numbers y) ≡ 18
  unfolding constraint_numbers
  length_numbers y = omega (arith, one_each (row_of P (y / 32) (y % 32)) 16)

  listed_at : (x y : ℕ) → y < x → T (is_pair P y) → ListedAs P (constraints_below P x) (count y (is_pair P)) y
  unfolding constraints_below constraint_numbers
  listed_at x y h t =
      record {
        pair = t;
        place = refl;
        one = ap (λ i. get_or (constraints_below P x) i 0) (sym (add-zero (18 * count y (is_pair P)))) ∙ chosen_at 18 (is_pair P) numbers length_numbers x y 0 h t (omega arith);
        two = chosen_at 18 (is_pair P) numbers length_numbers x y 1 h t (omega arith);
        rows = λ a l.
            let z : 18 * count y (is_pair P) + 2 + a ≡ 18 * count y (is_pair P) + suc (suc a) = omega arith in
            ap (λ i. get_or (constraints_below P x) i 0) z
            ∙ chosen_at 18 (is_pair P) numbers length_numbers x y (suc (suc a)) h t (omega arith) ∙ one_at (row_of P (y / 32) (y % 32)) 16 a l;
      }

  from_place : (x t : ℕ) → t < count x (is_pair P) → (y : ℕ) × (y < x) × ListedAs P (constraints_below P x) t y
  from_place x t h = let r = at_place x (is_pair P) t h in (r.0, r.1, subst (λ t. ListedAs P (constraints_below P x) t r.0) r.3 (listed_at x r.0 r.1 r.2))

  -- The number of a pair that is listed.
  number_listed : (cs : List ℕ) (t y : ℕ) → ListedAs P cs t y → pair_in cs t ≡ y
  unfolding pair_in pair_of
  number_listed cs t y l = omega (arith, l.one, l.two)

  -- They ascend; in front of the first stands 0, which is no pair's number.
  above_last : (x t : ℕ) → t < count x (is_pair P) → last_in (constraints_below P x) t < pair_in (constraints_below P x) t
  unfolding last_in
  above_last x zero h = let r = from_place x zero h in let o = pair_order r.0 r.2.pair in omega (arith, number_listed _ zero r.0 r.2, o.0)
  above_last x (suc t) h =
      let r = from_place x (suc t) h in
      let s = from_place x t (omega arith) in
      omega (arith, number_listed _ (suc t) r.0 r.2, number_listed _ t s.0 s.2, place_above (is_pair P) s.0 r.0 r.2.pair (omega (arith, s.2.place, r.2.place)))

  -- Of the pairs below x.
  listing_below : (x : ℕ) → Listing P x
  unfolding constraints_below
  listing_below x = record { size = length_chosen 18 (is_pair P) numbers length_numbers x; listed = listed_at x; from = from_place x; above = above_last x }

  -- Of all pairs.
  pub constraints_listed : Listing P (32 * n)
  constraints_listed = listing_below (32 * n)

  pub constraints-length : length (constraints_of P) ≡ 18 * constraint_count P
  unfolding constraints_of constraint_count
  constraints-length = constraints_listed.size
