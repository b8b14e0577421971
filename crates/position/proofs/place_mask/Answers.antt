use borrow.Author.Rules.{rules}
use borrow.Author.Tests.{lt-ltb, le-ltb}
use Rattle.position.proofs.Fitting.{played_small}
use Rattle.position.specs.Position.{place_mask}
use Rattle.position.proofs.place_mask.Goals as goal

pub single-requires : goal.single-requires
single-requires c = played_small _ _ _ _ (search rules) c.if-i-plays.true c.requires

pub returns-then-i-plays : goal.returns-then-i-plays
unfolding place_mask
returns-then-i-plays c = simp (lt-ltb _ _ c.if-i-plays.true) c.single.ensures

pub returns-else-i-plays : goal.returns-else-i-plays
unfolding place_mask
returns-else-i-plays c = simp (le-ltb _ _ c.if-i-plays.false)
