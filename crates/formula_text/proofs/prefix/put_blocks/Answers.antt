use native.Mathlib.Omega.{arith}
use Rattle.buffer.specs.Stored.{joined}
use Rattle.buffer.proofs.PutLaws.{put_none}
use Rattle.formula_text.proofs.LineLaws.{blocks_more, blocks_all}
use Rattle.formula_text.proofs.prefix.put_blocks.Goals as goal

pub loop-i-init : goal.loop-i-init
unfolding joined
loop-i-init c = put_none _

pub loop-i-preserved : goal.loop-i-preserved
loop-i-preserved c = blocks_more _ _ c.loop-i.invariant c.put_block.ensures

pub returns : goal.returns
returns c = blocks_all _ _ (omega arith) c.loop-i.invariant
