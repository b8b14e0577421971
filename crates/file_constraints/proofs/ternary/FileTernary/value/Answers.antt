use Prim.Native.Nat.{ℕ, ◌+◌, ◌*◌, ◌≤◌, ◌<◌}
use mathlib.Core.Path.{◌≡◌, refl, ◌∙◌}
use mathlib.Core.List.{List}
use borrow.Author.Tests.{lt-ltb, le-ltb}
use Rattle.file_layout.specs.Layout.{number_at}
use Rattle.file_constraints.specs.Ternaries.{ternary_size, ternary_value}
use Rattle.file_constraints.proofs.ternary.FileTernary.value.Goals as goal

-- Value e of a triple that is there, and of one that is not.
value_there : (f : List ℕ) (p e q : ℕ) → q < number_at f p 3 → number_at f p (3 * q + 4 + e) ≡ ternary_value f p e q
unfolding ternary_value ternary_size
value_there f p e q h = rw (lt-ltb q (number_at f p 3) h) refl

value_none : (f : List ℕ) (p e q : ℕ) → number_at f p 3 ≤ q → 16 ≡ ternary_value f p e q
unfolding ternary_value ternary_size
value_none f p e q h = rw (le-ltb q (number_at f p 3) h) refl

pub returns-then-q-number : goal.returns-then-q-number
returns-then-q-number c =
    let r = c.record-r.ensures in
    c.number-then-q-number.ensures.0
    ∙ rw (r.0, r.1) (value_there _ _ _ _ (rw (← r.0, ← r.1, ← c.number.ensures.0) c.if-q-number.true))

pub returns-else-q-number : goal.returns-else-q-number
returns-else-q-number c =
    let r = c.record-r.ensures in
    value_none _ _ _ _ (rw (← r.0, ← r.1, ← c.number.ensures.0) c.if-q-number.false)
