-- How many clauses a problem's formula has.
use mathlib.Core.Path.{◌≡◌, refl}
use mathlib.Core.Bool.{Bool, true, false, cond, not, ◌&&◌}
use mathlib.Core.List.{[], ◌∷◌, ◌++◌}
use Prim.Native.Nat.{ℕ, suc, ◌+◌, ◌-◌, ◌*◌, ◌≤◌, ◌<◌}
use native.Mathlib.Nat.{mul_comm, mul-le-mul_left}
use native.Mathlib.Omega.{arith}
use lib.Dec.{ltb, ltb→lt}
use lib.ListN.{length, length-append}
use Rattle.mask.specs.Range.{count}
use Rattle.mask.proofs.Logic.{and_out}
use Rattle.mask.proofs.Range.{count-bound}
use Rattle.mask.proofs.Places.{count_out, count-above}
use Rattle.game.specs.Problem.{Problem}
use Rattle.buffer.specs.Stored.{joined}
use Rattle.formula.specs.Formula.{only_if}
use Rattle.formula.specs.Encoding.{ways, stands, denial, at_least_one, existential_clauses, clash, clash_clauses, constraint_clauses, pair_clauses, closes, fresh, closing_clauses, formula_of}
use Rattle.formula_theory.proofs.JoinedLaws.{if_most, only_one, total, total_longer, total_times, shares, joined-total, joined_chosen}
use Rattle.formula_theory.proofs.Widths.{ways_most}
use Rattle.formula_theory.proofs.Chosen.{stands_same}

module _ (P : Problem) where
  open P use {n, universal, constrained}

  -- How many ways stand for a value: over all values no more than 16.
  standing : ℕ → ℕ → ℕ
  standing i a = count (ways P i) (λ c. stands P i c a)

  standing_most : (i : ℕ) → total (standing i) 16 ≤ 16
  unfolding standing
  standing_most i = let s = shares (stands P i) (stands_same P i) 16 (ways P i) in let m = ways_most P i in omega arith

  -- Of a clash, of one value's clashes, of a constraint.
  clash_many : (i a j b : ℕ) → length (clash_clauses P i a j b) ≤ standing i a * standing j b
  unfolding clash_clauses standing
  clash_many i a j b =
      rw (mul_comm (count (ways P i) (λ c. stands P i c a)) (count (ways P j) (λ e. stands P j e b)))
      (joined_chosen (λ c. stands P i c a) (λ c. joined (λ e. only_if (stands P j e b) ((denial P i c ++ denial P j e) ∷ [])) (ways P j)) (count (ways P j) (λ e. stands P j e b)) (ways P i)
      λ c lc sc. let r = joined_chosen (λ e. stands P j e b) (λ e. (denial P i c ++ denial P j e) ∷ []) 1 (ways P j) (λ e le se. omega arith) in omega arith)

  value_many : (i a j : ℕ) → length (joined (λ b. only_if (clash P i a j b) (clash_clauses P i a j b)) 16) ≤ 16 * standing i a
  value_many i a j =
      let r = joined-total (λ b. only_if (clash P i a j b) (clash_clauses P i a j b)) (λ b. standing i a * standing j b) 16
      (λ b lb. if_most (clash P i a j b) (clash_clauses P i a j b) (standing i a * standing j b) (clash_many i a j b)) in
      let t = total_times (standing i a) (standing j) 16 in
      let m = mul-le-mul_left (standing i a) (standing_most j) in
      omega arith

  constraint_many : (i j : ℕ) → length (constraint_clauses P i j) ≤ 256
  unfolding constraint_clauses
  constraint_many i j =
      let r = joined-total (λ a. joined (λ b. only_if (clash P i a j b) (clash_clauses P i a j b)) 16) (λ a. 16 * standing i a) 16 (λ a la. value_many i a j) in
      let t = total_times 16 (standing i) 16 in
      let m = standing_most i in
      omega arith

  -- Of all constraints: those of variable i with later ones are no more than 31 - i.
  later_many : n ≤ 32 → (i : ℕ) → length (joined (λ j. only_if (ltb i j && constrained i j) (constraint_clauses P i j)) n) ≤ 256 * (31 - i)
  later_many many i =
      let r = joined_chosen (λ j. ltb i j && constrained i j) (constraint_clauses P i) 256 n (λ j hj t. constraint_many i j) in
      let c = count-above n i (λ j. ltb i j && constrained i j) (λ j t. ltb→lt i j (and_out (ltb i j) (constrained i j) t).0) in
      omega arith

  pairs : total (λ i. 256 * (31 - i)) 32 ≡ 126976
  unfolding total
  pairs = refl

  pairs_many : n ≤ 32 → length (pair_clauses P) ≤ 126976
  unfolding pair_clauses
  pairs_many many =
      let r = joined-total (λ i. joined (λ j. only_if (ltb i j && constrained i j) (constraint_clauses P i j)) n) (λ i. 256 * (31 - i)) n (λ i hi. later_many many i) in
      let l = total_longer (λ i. 256 * (31 - i)) n 32 many in
      let p = pairs in
      omega arith

  -- One of each existential variable, and the closing one where the last is universal.
  existentials_many : length (existential_clauses P) ≤ count n (λ i. not (universal i))
  unfolding existential_clauses
  existentials_many = let r = joined_chosen (λ i. not (universal i)) (λ i. at_least_one P i ∷ []) 1 n (λ i h t. omega arith) in omega arith

  closing_length : length (closing_clauses P) ≡ cond (closes P) 1 0
  unfolding closing_clauses
  closing_length = only_one (closes P) (record { positive = true; boolean = fresh P } ∷ [])

  ends_many : 0 < n → length (existential_clauses P) + length (closing_clauses P) ≤ n
  unfolding closes
  ends_many some = go (universal (n - 1)) refl closing_length
    where
      last : suc (n - 1) ≡ n
      last = omega arith

      go : (b : Bool) → universal (n - 1) ≡ b → length (closing_clauses P) ≡ cond b 1 0 → length (existential_clauses P) + length (closing_clauses P) ≤ n
      go true e l =
          let o = existentials_many in
          let c : count n (λ i. not (universal i)) ≡ count (n - 1) (λ i. not (universal i)) = rw last at (count_out (n - 1) (λ i. not (universal i)) (rw e)) in
          let m = count-bound (n - 1) (λ i. not (universal i)) in
          omega arith
      go false e l = let o = existentials_many in let m = count-bound n (λ i. not (universal i)) in omega arith

  -- At most 32 and 496 times 256.
  pub clauses_most : 0 < n → n ≤ 32 → length (formula_of P).clauses ≤ 127008
  unfolding formula_of
  clauses_most some many =
      let t = pairs_many many in let e = ends_many some in
      omega (arith, length-append (existential_clauses P ++ pair_clauses P) (closing_clauses P), length-append (existential_clauses P) (pair_clauses P))
