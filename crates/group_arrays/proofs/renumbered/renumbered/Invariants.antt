use mathlib.Core.Path.{◌≡◌}
use Rattle.mask.specs.Mask.{bit, mask_of}
use Rattle.group_arrays.specs.Members.{old_in}
use Rattle.group_arrays.proofs.renumbered.renumbered.Given as goal

abbrev pub invariant-loop-t : goal.invariant-loop-t
invariant-loop-t l = l.out ≡ mask_of l.t (λ t. bit l.mask (old_in l.m t))
