use mathlib.Core.Path.{◌≡◌, sym, ap, ◌∙◌}
use native.Mathlib.Omega.{arith}
use Rattle.file_lookup.specs.Lookup.{place_to}
use Rattle.file_lookup.proofs.Lookup.{place_last, place_before}
use Rattle.file_lookup.proofs.find.Goals as goal

pub returns-then-pair : goal.returns-then-pair
returns-then-pair c =
    rw (← c.pair_of-pair.ensures) (sym (place_last _ _ _ _ c.loop-k-test.true (sym c.pair.ensures.0 ∙ c.if-pair.true)) ∙ c.loop-k.invariant)

pub loop-k-preserved : goal.loop-k-preserved
loop-k-preserved c = place_before _ _ _ _ c.loop-k-test.true (λ e. c.if-pair.false (c.pair.ensures.0 ∙ e)) ∙ c.loop-k.invariant

pub returns : goal.returns
unfolding place_to
returns c = let z : 0 ≡ c.loop-k.k = omega arith in rw (← c.pair_of-pair.ensures) (ap (place_to _ _ _) z ∙ c.loop-k.invariant)
