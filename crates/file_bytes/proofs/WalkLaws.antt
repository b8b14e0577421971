-- The records of a list of three-way constraints, one behind another: where each begins, how many are whole, and where the list stops within one.
use Prim.Native.Nat.{ℕ, zero, suc, ◌+◌, ◌*◌, ◌≤◌, ◌<◌}
use mathlib.Core.Path.{◌≡◌, refl, sym, ap, ◌∙◌}
use mathlib.Core.Bool.{Bool, true, false, cond}
use mathlib.Core.List.{List}
use mathlib.Core.Logic.{⊎_elim}
use lib.ListN.{length}
use native.Mathlib.Nat.{le_refl, zero-add, add-zero, eq-or-lt_of_le}
use native.Mathlib.Omega.{arith}
use borrow.Author.Tests.{leb-true, le-leb, eq-eqb, ne_eqb}
use Rattle.std.specs.Prelude.{Option, None, Some}
use Rattle.mask.proofs.Logic.{fails, holds, true_holds, clash, and_out, and_in}
use Rattle.file_bytes.specs.Bytes.{size_in, start_in, whole_at, records_from, count_in, whole_records}

-- One further on.
one_on : (q t : ℕ) → q + suc t ≡ suc q + t
one_on q t = omega arith

module _ (xs : List ℕ) where
  -- A record has at least four numbers.
  pub size_least : (p : ℕ) → 4 ≤ size_in xs p
  unfolding size_in
  size_least p = omega arith

  -- Where record 0 begins, where the next one does; records are at least four numbers apart and ascend.
  pub start_first : start_in xs 0 ≡ 0
  unfolding start_in
  start_first = refl

  pub start_next : (t : ℕ) → start_in xs (suc t) ≡ start_in xs t + size_in xs (start_in xs t)
  unfolding start_in
  start_next t = refl

  pub starts_apart : (t : ℕ) → 4 * t ≤ start_in xs t
  starts_apart zero = omega arith
  starts_apart (suc t) = omega (arith, starts_apart t, start_next t, size_least (start_in xs t))

  pub start_ascends : (r s : ℕ) → r ≤ s → start_in xs r ≤ start_in xs s
  start_ascends r zero h = let e : r ≡ 0 = omega arith in rw e (le_refl _)
  start_ascends r (suc s) h =
      ⊎_elim
      (λ (e : r ≡ suc s). rw e (le_refl _))
      (λ (l : r < suc s). omega (arith, start_next s, start_ascends r s (omega arith)))
      (eq-or-lt_of_le h)

  -- A record is whole where it ends within the list.
  pub whole_out : (p : ℕ) → whole_at xs p ≡ true → p + size_in xs p ≤ length xs
  unfolding whole_at
  whole_out p e = leb-true _ _ (holds (and_out _ _ (true_holds e)).1)

  pub whole_in : (p : ℕ) → p + size_in xs p ≤ length xs → whole_at xs p ≡ true
  unfolding whole_at
  whole_in p h =
      holds (and_in _ _ (true_holds (le-leb (p + 4) (length xs) (omega (arith, size_least p)))) (true_holds (le-leb (p + size_in xs p) (length xs) h)))

  pub whole_not : (p : ℕ) → length xs < p + size_in xs p → whole_at xs p ≡ false
  whole_not p h = fails (λ t. let l = whole_out p (holds t) in omega arith)

  -- The records counted are whole, and behind them stands none, where as many could be counted as the list has numbers left.
  counted : (q k t : ℕ) → t < records_from xs (start_in xs q) k → whole_at xs (start_in xs (q + t)) ≡ true
  unfolding records_from start_in
  counted q zero t h = absurd (omega arith)
  counted q (suc k) t h = go (whole_at xs (start_in xs q)) refl t h (counted (suc q) k)
    where
      go :
          (b : Bool) → whole_at xs (start_in xs q) ≡ b → (t : ℕ) → t < cond b (suc (records_from xs (start_in xs (suc q)) k)) 0
          → ((t : ℕ) → t < records_from xs (start_in xs (suc q)) k → whole_at xs (start_in xs (suc q + t)) ≡ true)
          → whole_at xs (start_in xs (q + t)) ≡ true
      go true e zero l ih = rw add-zero e
      go true e (suc t) l ih = ap (λ (p : ℕ). whole_at xs (start_in xs p)) (one_on q t) ∙ ih t (omega arith)
      go false e t l ih = absurd (omega arith)

  none_behind : (q k : ℕ) → length xs ≤ start_in xs q + k → whole_at xs (start_in xs (q + records_from xs (start_in xs q) k)) ≡ false
  unfolding records_from start_in
  none_behind q zero h = rw add-zero (whole_not (start_in xs q) (omega (arith, size_least (start_in xs q))))
  none_behind q (suc k) h =
      go (whole_at xs (start_in xs q)) refl (none_behind (suc q) k (omega (arith, size_least (start_in xs q), start_next q)))
    where
      go :
          (b : Bool) → whole_at xs (start_in xs q) ≡ b
          → whole_at xs (start_in xs (suc q + records_from xs (start_in xs (suc q)) k)) ≡ false
          → whole_at xs (start_in xs (q + cond b (suc (records_from xs (start_in xs (suc q)) k)) 0)) ≡ false
      go true e ih = ap (λ (p : ℕ). whole_at xs (start_in xs p)) (one_on q _) ∙ ih
      go false e ih = rw add-zero e

  pub counted_whole : (t : ℕ) → t < count_in xs → whole_at xs (start_in xs t) ≡ true
  unfolding count_in start_in
  counted_whole t h = ap (λ (q : ℕ). whole_at xs (start_in xs q)) (sym (zero-add t)) ∙ counted 0 (length xs) t h

  pub none_counted : whole_at xs (start_in xs (count_in xs)) ≡ false
  unfolding count_in start_in
  none_counted = ap (λ (q : ℕ). whole_at xs (start_in xs q)) (sym (zero-add (records_from xs 0 (length xs)))) ∙ none_behind 0 (length xs) (omega arith)

  -- So each of them ends within the list, and there are no more than its numbers.
  pub start_within : (t : ℕ) → t ≤ count_in xs → start_in xs t ≤ length xs
  start_within zero h = omega (arith, start_first)
  start_within (suc t) h = omega (arith, start_next t, whole_out _ (counted_whole t (omega arith)))

  pub few_counted : 4 * count_in xs ≤ length xs
  few_counted = omega (arith, starts_apart (count_in xs), start_within (count_in xs) (le_refl _))

  -- Record k of t that are counted.
  pub stands : (k t : ℕ) → k < t → t ≤ count_in xs →
      (start_in xs k + size_in xs (start_in xs k) ≤ length xs) × (start_in xs k + size_in xs (start_in xs k) ≤ start_in xs t)
  stands k t l h = (whole_out _ (counted_whole k (omega arith)), omega (arith, start_next k, start_ascends (suc k) t (omega arith)))

  -- Where t records are counted so far, the next is one more of them, or none is left.
  pub one_counted : (t : ℕ) → t ≤ count_in xs → start_in xs t + size_in xs (start_in xs t) ≤ length xs → t < count_in xs
  one_counted t h l =
      ⊎_elim
      (λ (e : t ≡ count_in xs). absurd (clash none_counted (true_holds (ap (λ (q : ℕ). whole_at xs (start_in xs q)) (sym e) ∙ whole_in _ l))))
      (λ (i : t < count_in xs). i)
      (eq-or-lt_of_le h)

  pub all_counted : (t : ℕ) → t ≤ count_in xs → length xs < start_in xs t + size_in xs (start_in xs t) → t ≡ count_in xs
  all_counted t h l =
      ⊎_elim
      (λ (e : t ≡ count_in xs). e)
      (λ (i : t < count_in xs). absurd (clash (whole_not _ l) (true_holds (counted_whole t i))))
      (eq-or-lt_of_le h)

  -- What is told of a list of whole records, and of one that stops within a record.
  abbrev pub told_count : Option ℕ
  told_count = cond (whole_records xs) (Some (count_in xs)) None

  pub all_whole : (t p : ℕ) → t ≤ count_in xs → p ≡ start_in xs t → length xs ≤ p → Some t ≡ told_count
  unfolding whole_records
  all_whole t p h e l =
      let z = all_counted t h (omega (arith, size_least (start_in xs t))) in
      let w : start_in xs (count_in xs) ≡ length xs = omega (arith, start_within _ (le_refl (count_in xs)), ap (start_in xs) z) in
      rw (eq-eqb _ _ w, z) refl

  pub stops_within : (t p : ℕ) → t ≤ count_in xs → p ≡ start_in xs t → p < length xs → length xs < p + size_in xs p → None ≡ told_count
  unfolding whole_records
  stops_within t p h e l s =
      let z = all_counted t h (rw (← e) s) in
      rw (ne_eqb (start_in xs (count_in xs)) (length xs) (λ w. omega (arith, ap (start_in xs) z))) refl
