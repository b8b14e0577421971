-- What the expanded problem is, part by part: between two of the problem's own variables, between an own and a hidden one, between two hidden ones.
-- Hidden variable r is variable n + r.
use mathlib.Core.Path.{◌≡◌, refl, ap, ◌∙◌}
use mathlib.Core.Bool.{true, false, and-true}
use Prim.Native.Nat.{ℕ, ◌+◌, ◌-◌, ◌≤◌, ◌<◌}
use native.Mathlib.Omega.{arith}
use lib.Dec.{T, eqb}
use borrow.Author.Tests.{lt-ltb, le-ltb, eq-eqb, ne_eqb}
use Rattle.game.specs.Ternary.{TernaryProblem}
use Rattle.ternary_theory.specs.Expanded.{touches, agrees, by_kind, compatible_with, constrained_with, universal_with}

module _ (J : TernaryProblem) where
  open J use {binary, ternary, one, two, three, first, second, third}
  open binary use {n, universal, compatible, constrained}

  -- ---- the four kinds of pairs

  own_kind : {A : Type 0} (own left right none : A) (x y : ℕ) → x < n → y < n → by_kind J own left right none x y ≡ own
  unfolding by_kind
  own_kind own left right none x y h k = rw (lt-ltb x n h, lt-ltb y n k)

  left_kind : {A : Type 0} (own left right none : A) (x r : ℕ) → x < n → r < ternary → by_kind J own left right none x (n + r) ≡ left
  unfolding by_kind
  left_kind own left right none x r h k = rw (lt-ltb x n h, le-ltb (n + r) n (omega arith), lt-ltb (n + r) (n + ternary) (omega arith))

  right_kind : {A : Type 0} (own left right none : A) (r y : ℕ) → r < ternary → y < n → by_kind J own left right none (n + r) y ≡ right
  unfolding by_kind
  right_kind own left right none r y h k = rw (le-ltb (n + r) n (omega arith), lt-ltb y n k, lt-ltb (n + r) (n + ternary) (omega arith))

  no_kind : {A : Type 0} (own left right none : A) (x y : ℕ) → n ≤ x → n ≤ y → by_kind J own left right none x y ≡ none
  unfolding by_kind
  no_kind own left right none x y h k = rw (le-ltb x n h, le-ltb y n k)

  -- The number of a hidden variable among the hidden ones.
  number : (r : ℕ) → (n + r) - n ≡ r
  number r = omega arith

  -- ---- which values are compatible

  -- Two own variables: as in the problem.
  pub own_pair : (x a y b : ℕ) → x < n → y < n → compatible_with J x a y b ≡ compatible x a y b
  unfolding compatible_with
  own_pair x a y b h k = own_kind _ _ _ _ x y h k

  -- An own variable and a hidden one: the value is that of the triple.
  pub hidden_pair : (x a r q : ℕ) → x < n → r < ternary → compatible_with J x a (n + r) q ≡ agrees J r x a q
  unfolding compatible_with
  hidden_pair x a r q h k = left_kind _ _ _ _ x r h k ∙ ap (λ (s : ℕ). agrees J s x a q) (number r)

  -- Two hidden ones: all values.
  pub both_hidden : (x a y b : ℕ) → n ≤ x → n ≤ y → T (compatible_with J x a y b)
  unfolding compatible_with
  both_hidden x a y b h k = rw (no_kind (compatible x a y b) (agrees J (y - n) x a b) (agrees J (x - n) y b a) true x y h k) tt

  -- ---- which variables a constraint joins

  -- Two own variables: as in the problem.
  pub own_joined : (x y : ℕ) → x < n → y < n → constrained_with J x y ≡ constrained x y
  unfolding constrained_with
  own_joined x y h k = own_kind _ _ _ _ x y h k

  -- An own variable and a hidden one, either way round: the three variables of its constraint.
  pub hidden_joined : (x r : ℕ) → x < n → r < ternary → constrained_with J x (n + r) ≡ touches J r x
  unfolding constrained_with
  hidden_joined x r h k = left_kind _ _ _ _ x r h k ∙ ap (λ (s : ℕ). touches J s x) (number r)

  pub joined_hidden : (r x : ℕ) → r < ternary → x < n → constrained_with J (n + r) x ≡ touches J r x
  unfolding constrained_with
  joined_hidden r x h k = right_kind _ _ _ _ r x h k ∙ ap (λ (s : ℕ). touches J s x) (number r)

  -- Two hidden ones: none.
  pub both_hidden_free : (x y : ℕ) → n ≤ x → n ≤ y → constrained_with J x y ≡ false
  unfolding constrained_with
  both_hidden_free x y h k = no_kind _ _ _ _ x y h k

  -- ---- whose turn it is: an own variable's side is that of the problem, a hidden variable is existential

  pub own_side : (i : ℕ) → i < n → universal_with J i ≡ universal i
  unfolding universal_with
  own_side i h = rw (lt-ltb i n h)

  pub hidden_side : (i : ℕ) → n ≤ i → universal_with J i ≡ false
  unfolding universal_with
  hidden_side i h = rw (le-ltb i n h)

  -- ---- what a triple asks for at each of its three variables

  pub agrees_one : (r a q : ℕ) → r < ternary → agrees J r (one r) a q ≡ eqb a (first r q)
  unfolding agrees
  agrees_one r a q h =
      let o = J.order r h in
      rw (eq-eqb (one r) (one r) refl, ne_eqb (one r) (two r) (omega (arith, o.0)), ne_eqb (one r) (three r) (omega (arith, o.0, o.1)))
      (and-true (eqb a (first r q)))

  pub agrees_two : (r a q : ℕ) → r < ternary → agrees J r (two r) a q ≡ eqb a (second r q)
  unfolding agrees
  agrees_two r a q h =
      let o = J.order r h in
      rw (ne_eqb (two r) (one r) (omega (arith, o.0)), eq-eqb (two r) (two r) refl, ne_eqb (two r) (three r) (omega (arith, o.1)))
      (and-true (eqb a (second r q)))

  pub agrees_three : (r a q : ℕ) → r < ternary → agrees J r (three r) a q ≡ eqb a (third r q)
  unfolding agrees
  agrees_three r a q h =
      let o = J.order r h in
      rw (ne_eqb (three r) (one r) (omega (arith, o.0, o.1)), ne_eqb (three r) (two r) (omega (arith, o.1)), eq-eqb (three r) (three r) refl)
