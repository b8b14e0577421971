use mathlib.Core.Path.{refl}
use native.Mathlib.Omega.{arith}
use lib.ListN.{length-set}
use Rattle.host.specs.Unpack.{place_in, unpack}
use Rattle.host.proofs.Places.{one_more, all_of}
use Rattle.host.proofs.unpack.unpacked.Goals as goal

pub loop-k-init : goal.loop-k-init
loop-k-init c = (refl, λ i h. absurd (omega arith))

pub loop-k-preserved : goal.loop-k-preserved
unfolding place_in
loop-k-preserved c =
    let l = c.loop-k in
    (simp length-set l.invariant.0, one_more _ 32 l.k l.values _ (omega arith) l.invariant.0 c.byte_of.ensures l.invariant.1)

pub returns : goal.returns
unfolding unpack
returns c =
    let i = c.loop-k.invariant in
    rw (all_of (place_in _ _ _ _) 32 c.loop-k.values i.0 (λ k h. i.1 k (omega arith))) refl
