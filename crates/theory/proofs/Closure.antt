-- Rule 1's result has no dead value: sixteen sweeps for each variable are enough, since each takes out a value or is the last.
-- So any order of removals ends in it.
use mathlib.Core.Path.{◌≡◌, refl}
use mathlib.Core.Bool.{Bool, true, false, not}
use Prim.Native.Nat.{ℕ, zero, suc, ◌+◌, ◌*◌, ◌≤◌, ◌<◌}
use native.Mathlib.Omega.{arith}
use lib.Dec.{T, T_not}
use Rattle.mask.proofs.Logic.{holds, fails, clash, test, by_eq}
use Rattle.mask.proofs.Range.{some_out, some_in}
use Rattle.mask.specs.Range.{some}
use Rattle.game.specs.Arc.{dead, sweep, sweeps}
use Rattle.game.specs.Game.{Domains, Play}
use Rattle.game.specs.Problem.{Problem}
use Rattle.theory.proofs.Arc
use Rattle.theory.proofs.Arc.{Toward, Closed}
use Rattle.theory.proofs.Laws.{Answers}
use Rattle.theory.proofs.Transfer.{In}
use Rattle.theory.proofs.Turn.{sweep-part, sweep_cut, sweeps_toward}

-- A test as a number, and sums.
abbrev bit : Bool → ℕ
bit true = 1
bit false = 0

count : ℕ → (ℕ → ℕ) → ℕ
count zero f = 0
count (suc v) f = f v + count v f

-- Sums of numbers that are no greater, and one of which is less.
count_le : (v : ℕ) (f g : ℕ → ℕ) → ((a : ℕ) → a < v → f a ≤ g a) → count v f ≤ count v g
unfolding count
count_le zero f g h = omega arith
count_le (suc v) f g h = omega (arith, h v (omega arith), count_le v f g (λ a l. h a (omega arith)))

count_lt : (v : ℕ) (f g : ℕ → ℕ) → ((a : ℕ) → a < v → f a ≤ g a) → (a : ℕ) → a < v → f a < g a → count v f < count v g
unfolding count
count_lt zero f g h a l k = absurd (omega arith)
count_lt (suc v) f g h a l k =
    by_eq a v (λ e. let k' : f v < g v = rw e at k in omega (arith, count_le v f g (λ a l. h a (omega arith))))
    (λ e. omega (arith, h v (omega arith), count_lt v f g (λ a l. h a (omega arith)) a (omega arith) k))

count_most : (v b : ℕ) (f : ℕ → ℕ) → ((a : ℕ) → a < v → f a ≤ b) → count v f ≤ b * v
unfolding count
count_most zero b f h = omega arith
count_most (suc v) b f h = omega (arith, h v (omega arith), count_most v b f (λ a l. h a (omega arith)))

bit_le : (x y : Bool) → (T x → T y) → bit x ≤ bit y
bit_le true true f = omega arith
bit_le true false f = absurd (f tt)
bit_le false true f = omega arith
bit_le false false f = omega arith

bit_most : (x : Bool) → bit x ≤ 1
bit_most true = omega arith
bit_most false = omega arith

module _ (P : Problem) where
  open P use {n, universal}

  -- How many values the domains have: at most 16 n, and fewer when one is taken out.
  pub sizes : Domains → ℕ → ℕ
  sizes D j = count 16 (λ a. bit (D j a))

  pub size : Domains → ℕ
  size D = count n (sizes D)

  pub size_most : (D : Domains) → size D ≤ 16 * n
  unfolding size sizes
  size_most D = count_most n 16 (sizes D) (λ j l. count_most 16 1 (λ a. bit (D j a)) (λ a k. bit_most (D j a)))

  pub size_lt : (D E : Domains) → ((j a : ℕ) → T (E j a) → T (D j a)) → (j a : ℕ) → j < n → a < 16 → T (D j a) → E j a ≡ false → size E < size D
  unfolding size sizes
  size_lt D E sub j a l k m e =
      count_lt n (sizes E) (sizes D) (λ j _. count_le 16 (λ a. bit (E j a)) (λ a. bit (D j a)) (λ a _. bit_le (E j a) (D j a) (sub j a))) j l
      (count_lt 16 (λ a. bit (E j a)) (λ a. bit (D j a)) (λ a _. bit_le (E j a) (D j a) (sub j a)) a k (rw (e, holds {b = D j a} m) (omega arith)))

  -- A sweep changes no closed domains.
  closed-sweep : (D : Domains) → Closed P D → Closed P (sweep P D)
  closed-sweep D c j l s a m =
      fails λ t. clash (c j l s a (m.0, (sweep-part P D).sub j a m.1))
      (Arc.dead_down P (sweep P D) D (λ y ly b k. test (sweep P D y b) (λ t. t) (λ e. absurd (stays y ly b k e (universal y) refl))) (λ y b r t. (sweep-part P D).sub y b t) j a t)
    where
      stays : (y : ℕ) → y < n → (b : ℕ) → In (D y) b → sweep P D y b ≡ false → (r : Bool) → universal y ≡ r → ⊥
      stays y ly b k e true r = clash e ((sweep-part P D).keep y b r k.1)
      stays y ly b k e false r = clash (c y ly r b k) (sweep_cut P D y b r k.1 e)

  closed-sweeps : (k : ℕ) (D : Domains) → Closed P D → Closed P (sweeps P k D)
  unfolding sweeps
  closed-sweeps zero D c = c
  closed-sweeps (suc k) D c = closed-sweeps k (sweep P D) (closed-sweep D c)

  -- A dead value is gone after a sweep.
  gone : (D : Domains) (j a : ℕ) → universal j ≡ false → T (dead P D j a) → sweep P D j a ≡ false
  unfolding sweep
  gone D j a s t = rw (s, holds {b = dead P D j a} t)

  -- As many sweeps as there are values close the domains.
  enough : (k : ℕ) (D : Domains) → size D ≤ k → Closed P (sweeps P k D)
  unfolding sweeps
  enough zero D h = λ j l s a m. let z = size_lt D (λ j a. false) (λ j a t. absurd t) j a l m.0 m.1 refl in absurd (omega arith)
  enough (suc k) D h =
      test (some n (λ j. not (universal j)) (λ j. some 16 (D j) (λ a. dead P D j a)))
      (λ t. let r = some_out n (λ j. not (universal j)) (λ j. some 16 (D j) (λ a. dead P D j a)) t in
      let q = some_out 16 (D r.0) (λ a. dead P D r.0 a) r.3 in
      let s : universal r.0 ≡ false = fails {b = universal r.0} (T_not (universal r.0) r.2) in
      let z = size_lt D (sweep P D) (sweep-part P D).sub r.0 q.0 r.1 q.1 q.2 (gone D r.0 q.0 s q.3) in
      enough k (sweep P D) (omega arith))
      (λ e. closed-sweeps k (sweep P D) (closed-sweep D λ j l s a m. fails {b = dead P D j a} λ t.
      clash e (some_in n (λ j. not (universal j)) (λ j. some 16 (D j) (λ a. dead P D j a)) j l (rw s tt) (some_in 16 (D j) (λ a. dead P D j a) a m.0 m.1 t))))

  -- Rule 1 leaves none dead.
  pub arc-closed : (D : Domains) → Closed P (sweeps P (16 * n) D)
  arc-closed D = enough (16 * n) D (size_most D)

  -- Removals in any order that end with no dead value end in the sweeps' result.
  pub arc_is : (D E : Domains) (v : Play) → Answers P D v → Toward P D E → Closed P E → (j : ℕ) → j < n → (a : ℕ) → a < 16 → E j a ≡ sweeps P (16 * n) D j a
  arc_is D E v f w c =
      Arc.arc_unique P D E (sweeps P (16 * n) D) w c (sweeps_toward P (16 * n) D D v f (Arc.toward_refl P D)) (arc-closed D)
