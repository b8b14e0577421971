use Prim.Native.Nat.{ℕ}
use mathlib.Core.Path.{◌≡◌}
use mathlib.Core.Bool.{true}
use Rattle.file_layout.specs.Numbers.{triples_fit, Gives}
use Rattle.file_layout.proofs.NumberLaws.{next_above}
use Rattle.file_layout.proofs.numbers.ternary_fits.Given as goal

abbrev pub invariant-loop-q : goal.invariant-loop-q
invariant-loop-q g l =
    (d x : ℕ → ℕ) → Gives (goal.D-post g l.domain) l.n d → Gives (goal.X-post g l.number) 52 x → (triples_fit d x l.q ≡ true) × (l.next ≡ next_above x l.q)
