use native.Mathlib.Omega.{arith}
use Rattle.search_words.proofs.SetLaws.{handed_all, handed_those}
use Rattle.search_words.proofs.sets.handed.Goals as goal

pub returns-then-jump : goal.returns-then-jump
returns-then-jump c = rw c.if-jump.true (handed_those _ _ _ c.requires (omega arith) c.everyone-played.ensures)

pub returns-else-jump : goal.returns-else-jump
returns-else-jump c = rw c.if-jump.false (handed_all _ _ _ c.requires (omega arith) c.everyone-played.ensures)
