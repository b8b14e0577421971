use mathlib.Core.Path.{◌≡◌}
use lib.Dec.{eqb}
use Rattle.mask.specs.Mask.{mask_of}
use Rattle.file_constraints.specs.Ternaries.{ternary_value}
use Rattle.ternary_decoder.proofs.rows.places_with.Given as goal

abbrev pub invariant-loop-q : goal.invariant-loop-q
invariant-loop-q l = l.out ≡ mask_of l.q (λ x. eqb l.a (ternary_value l.c.file.now l.c.place l.e x))
