use mathlib.Core.Path.{◌≡◌}
use Rattle.file_layout.specs.Layout.{ternary_at}
use Rattle.file_lookup.proofs.ternary.body_from.Given as goal

abbrev pub invariant-loop : goal.invariant-loop
invariant-loop l = l.place ≡ ternary_at l.f l.q l.counter
