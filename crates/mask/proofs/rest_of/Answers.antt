use Prim.Native.Nat.{ℕ, ◌-◌}
use mathlib.Core.Path.{ap, ◌∙◌}
use native.Mathlib.Nat.{lt_of_le_of_lt}
use lib.Bits.{bit_and, and_le_l}
use Rattle.mask.specs.Mask.{rest}
use Rattle.mask.proofs.rest_of.Goals as goal

pub narrow-requires : goal.narrow-requires
narrow-requires g c = lt_of_le_of_lt (and_le_l c.wide-w.result (c.wide-w.result - 1)) (rw c.wide-w.ensures.value c.wide-w.ensures.fits)

pub returns : goal.returns
unfolding rest
returns g c = c.narrow.ensures ∙ ap (λ (x : ℕ). bit_and x (x - 1)) c.wide-w.ensures.value
