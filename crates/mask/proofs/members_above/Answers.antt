use Prim.Native.Nat.{ℕ, ◌+◌, ◌-◌}
use mathlib.Core.Path.{ap, ap₂, ◌∙◌}
use native.Mathlib.Omega.{arith}
use Rattle.mask.proofs.Bits.{shl_one}
use Rattle.mask.proofs.Masks.{diff_lt}
use Rattle.mask.proofs.Members.{ones_to}
use Rattle.mask.specs.Mask.{diff, above}
use Rattle.mask.proofs.members_above.Goals as goal

pub narrow-requires : goal.narrow-requires
unfolding diff
narrow-requires g c = diff_lt g.M.Mask.width c.wide-w.result _ (rw c.wide-w.ensures.value c.wide-w.ensures.fits)

pub returns : goal.returns
unfolding above diff
returns g c =
    c.narrow.ensures
    ∙ ap₂ diff c.wide-w.ensures.value
    (ap (λ (x : ℕ). x + (x - 1)) (shl_one 64 c.args.k (omega (arith, c.requires, g.met.M.Mask.at_most_wide))) ∙ ones_to c.args.k)
