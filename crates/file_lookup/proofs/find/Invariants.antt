use mathlib.Core.Path.{◌≡◌}
use Rattle.file_lookup.specs.Lookup.{place_to}
use Rattle.file_lookup.proofs.find.Given as goal

abbrev pub invariant-loop-k : goal.invariant-loop-k
invariant-loop-k l = place_to l.f l.q l.pair l.k ≡ place_to l.f l.q l.pair l.m
