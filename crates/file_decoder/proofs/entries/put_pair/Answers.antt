use Prim.Native.Nat.{◌+◌, ◌*◌}
use mathlib.Core.Path.{refl, ap, ◌∙◌}
use Rattle.file_decoder.specs.Tables.{put_to, added, linked, numbered, blocks}
use Rattle.file_decoder.proofs.entries.put_pair.Goals as goal

pub returns-clause-near_after : goal.returns-clause-near_after
unfolding added linked
returns-clause-near_after g c = rw (c.single.ensures, c.single-2.ensures) refl

pub returns-clause-index_after : goal.returns-clause-index_after
unfolding numbered
returns-clause-index_after g c = refl

pub returns-clause-rows_after : goal.returns-clause-rows_after
unfolding blocks
returns-clause-rows_after g c = λ r l R C. c.put_block-2.ensures l C ∙ ap (λ w. put_to w (32 * c.args.t + 32) l 16) (c.put_block.ensures r R)
