use native.Mathlib.Omega.{arith}
use Rattle.rule_narrow.proofs.NextLaws.{narrows}
use Rattle.rule_narrow.proofs.narrow_next.Goals as goal

pub returns : goal.returns
returns c =
    λ P S T f g. narrows _ _ c.requires.0 c.args.arrays.now.most _ c.requires.1 (λ k. omega (arith, c.slice_known-1.given k)) P S _ _ f g _ _ (c.after_pure.ensures P T) (c.after_interchangeable.ensures P T)
