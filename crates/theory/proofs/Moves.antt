-- One move: a turn as a type, a play with one value put, domains with one replaced.
use mathlib.Core.Path.{◌≡◌, refl, fun_ext}
use mathlib.Core.Bool.{Bool, true, false}
use Prim.Native.Nat.{ℕ, ◌<◌}
use lib.Dec.{T}
use borrow.Author.Tests.{eq-eqb, ne_eqb}
use Rattle.mask.proofs.Range.{each_out, each_in, some_out, some_in}
use Rattle.mask.proofs.Logic.{by_eq}
use Rattle.mask.specs.Range.{each}
use Rattle.game.specs.Game.{put, turn, satisfied, replace}

-- A turn as a type: a function at a universal variable, a witness at an existential one.
abbrev pub Turn : Bool → (ℕ → Bool) → (ℕ → Type 0) → Type 0
Turn true d F = (a : ℕ) → a < 16 → T (d a) → F a
Turn false d F = (a : ℕ) × (a < 16) × T (d a) × F a

-- A turn that holds gives its type, and back.
pub turn_out : (s : Bool) (d f : ℕ → Bool) → T (turn s d f) → Turn s d (λ a. T (f a))
unfolding turn
turn_out true d f t = each_out 16 d f t
turn_out false d f t = some_out 16 d f t

pub turn_in : (s : Bool) (d f : ℕ → Bool) → Turn s d (λ a. T (f a)) → T (turn s d f)
unfolding turn
turn_in true d f t = each_in 16 d f t
turn_in false d f t = some_in 16 d f t.0 t.1 t.2 t.3

-- A play with a value put: at that variable, at another, and with the value that it has.
pub put_at : (p : ℕ → ℕ) (i a : ℕ) → put p i a i ≡ a
unfolding put
put_at p i a = rw (eq-eqb i i refl)

pub put_off : (p : ℕ → ℕ) (i a j : ℕ) → ¬ (j ≡ i) → put p i a j ≡ p j
unfolding put
put_off p i a j h = rw (ne_eqb j i h)

pub put_self : (p : ℕ → ℕ) (i : ℕ) → put p i (p i) ≡ p
put_self p i = fun_ext λ j. by_eq j i (λ e. rw e (put_at p i (p i))) (λ h. put_off p i (p i) j h)

-- Domains with one replaced: at that variable, and at another.
pub replace_at : (D : ℕ → ℕ → Bool) (i : ℕ) (m : ℕ → Bool) → replace D i m i ≡ m
unfolding replace
replace_at D i m = fun_ext λ b. rw (eq-eqb i i refl)

pub replace_off : (D : ℕ → ℕ → Bool) (i : ℕ) (m : ℕ → Bool) (j : ℕ) → ¬ (j ≡ i) → replace D i m j ≡ D j
unfolding replace
replace_off D i m j h = fun_ext λ b. rw (ne_eqb j i h)

-- A satisfied play has every pair compatible, and back.
pub satisfied_out : (compatible : ℕ → ℕ → ℕ → ℕ → Bool) (n : ℕ) (p : ℕ → ℕ) → T (satisfied compatible n p) → (i j : ℕ) → i < n → j < i → T (compatible j (p j) i (p i))
unfolding satisfied
satisfied_out compatible n p t i j h l = each_out i (λ j. true) (λ j. compatible j (p j) i (p i)) (each_out n (λ i. true) (λ i. each i (λ j. true) (λ j. compatible j (p j) i (p i))) t i h tt) j l tt

pub satisfied_in : (compatible : ℕ → ℕ → ℕ → ℕ → Bool) (n : ℕ) (p : ℕ → ℕ) → ((i j : ℕ) → i < n → j < i → T (compatible j (p j) i (p i))) → T (satisfied compatible n p)
unfolding satisfied
satisfied_in compatible n p f = each_in n (λ i. true) (λ i. each i (λ j. true) (λ j. compatible j (p j) i (p i))) λ i h s. each_in i (λ j. true) (λ j. compatible j (p j) i (p i)) λ j l s. f i j h l
