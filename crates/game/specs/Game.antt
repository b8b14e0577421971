-- The game over domains (000, section 2; 003, definition 3), as a test that computes.
use Rattle.std.specs.Prelude.{Bool, true, false, cond, ℕ, zero, suc, eqb}
use Rattle.mask.specs.Range.{some, each}

-- Domains: the values of each variable. A play: a value for each variable.
abbrev pub Domains : Type 0
Domains = ℕ → ℕ → Bool

abbrev pub Play : Type 0
Play = ℕ → ℕ

-- The play with value a at variable i.
unfoldable pub put : Play → ℕ → ℕ → Play
put p i a j = cond (eqb j i) a (p j)

-- A turn over a domain d ("at a shift's choice, some option in its mask must lead to a win; at a day's choice, every option must").
unfoldable pub turn : Bool → (ℕ → Bool) → (ℕ → Bool) → Bool
turn true d f = each 16 d f
turn false d f = some 16 d f

-- Every pair of variables below n is compatible ("won if every table holds").
unfoldable pub satisfied : (ℕ → ℕ → ℕ → ℕ → Bool) → ℕ → Play → Bool
satisfied compatible n p = each n (λ i. true) (λ i. each i (λ j. true) (λ j. compatible j (p j) i (p i)))

-- The game where k variables are left, i is the next, p the play so far and Q the test of the play at the end.
unfoldable pub won : (ℕ → Bool) → (Play → Bool) → Domains → ℕ → ℕ → Play → Bool
won universal Q D zero i p = Q p
won universal Q D (suc k) i p = turn (universal i) (D i) (λ a. won universal Q D k (suc i) (put p i a))

-- The game of n variables over the domains D; constraints are looked at when all are played.
unfoldable pub wins : ℕ → (ℕ → Bool) → (ℕ → ℕ → ℕ → ℕ → Bool) → Domains → Bool
wins n universal compatible D = won universal (satisfied compatible n) D n 0 (λ j. 0)

-- The domains with m for variable i's; with variable i narrowed to value a.
unfoldable pub replace : Domains → ℕ → (ℕ → Bool) → Domains
replace D i m j b = cond (eqb j i) (m b) (D j b)

abbrev pub narrow : Domains → ℕ → ℕ → Domains
narrow D i a = replace D i (λ b. eqb b a)
