-- Tests as types. `T b` of the kit is the type that holds where b is true; these lemmas go between it and equations.
use mathlib.Core.Path.{◌≡◌, refl, sym}
use mathlib.Core.Bool.{Bool, true, false, cond, ◌&&◌, ◌||◌}
use Prim.Native.Nat.{ℕ, ◌<◌, ◌≤◌}
use native.Mathlib.Omega.{arith}
use native.Mathlib.Decide.{ℕ_discrete, dec_lt}
use lib.Dec.{T}

-- Two tests that follow from each other are equal.
pub same : (a b : Bool) → (T a → T b) → (T b → T a) → a ≡ b
same true true f g = refl
same true false f g = absurd (f tt)
same false true f g = absurd (g tt)
same false false f g = refl

-- So are two that are false together.
pub same_false : (a b : Bool) → (a ≡ false → b ≡ false) → (b ≡ false → a ≡ false) → a ≡ b
same_false true true f g = refl
same_false true false f g = g refl
same_false false true f g = sym (f refl)
same_false false false f g = refl

-- A test that holds is true, one that cannot is false, one that is false does not hold.
pub holds : {b : Bool} → T b → b ≡ true
holds {b = true} t = refl
holds {b = false} t = absurd t

pub true_holds : {b : Bool} → b ≡ true → T b
true_holds e = rw e tt

pub fails : {b : Bool} → (T b → ⊥) → b ≡ false
fails {b = true} f = absurd (f tt)
fails {b = false} f = refl

pub clash : {b : Bool} → b ≡ false → T b → ⊥
clash e t = rw e at t

-- Cases: on a test, on an equation of numbers, on their order.
pub test : {A : Type 0} (b : Bool) → (T b → A) → (b ≡ false → A) → A
test true f g = f tt
test false f g = g refl

pub by_eq : {A : Type 0} (m n : ℕ) → (m ≡ n → A) → (¬ (m ≡ n) → A) → A
by_eq m n f g = elim (ℕ_discrete m n) [ yes e ↦ f e | no d ↦ g d ]

pub by_lt : {A : Type 0} (m n : ℕ) → (m < n → A) → (n ≤ m → A) → A
by_lt m n f g = elim (dec_lt m n) [ yes e ↦ f e | no d ↦ g (omega arith) ]

-- A conjunction and its parts.
pub and_in : (a b : Bool) → T a → T b → T (a && b)
and_in true b s t = t
and_in false b s t = s

pub and_out : (a b : Bool) → T (a && b) → T a × T b
and_out true b t = (tt, t)
and_out false b t = absurd t

-- A disjunction from its left part, from its right part, and taken apart.
pub or_left : (a b : Bool) → T a → T (a || b)
or_left true b t = tt
or_left false b t = absurd t

pub or_right : (a b : Bool) → T b → T (a || b)
or_right true b t = tt
or_right false b t = t

pub or_out : {A : Type 0} (a b : Bool) → T (a || b) → (T a → A) → (T b → A) → A
or_out true b t f g = f tt
or_out false b t f g = g t

-- A disjunction that fails: each part does.
pub or_out_false : (a b : Bool) → (a || b) ≡ false → (a ≡ false) × (b ≡ false)
or_out_false true b e = absurd (true_holds (sym e))
or_out_false false b e = (refl, e)

-- Two cases that agree.
pub cond_same : {A : Type 0} (b : Bool) (x : A) → cond b x x ≡ x
cond_same true x = refl
cond_same false x = refl

-- What comes behind a part counts only where that part holds.
pub and_same : (a b c : Bool) → (T a → b ≡ c) → (a && b) ≡ (a && c)
and_same true b c f = f tt
and_same false b c f = refl

-- A part that follows from the other.
pub and_keep : (a b : Bool) → (T a → T b) → (a && b) ≡ a
and_keep true b f = holds (f tt)
and_keep false b f = refl
