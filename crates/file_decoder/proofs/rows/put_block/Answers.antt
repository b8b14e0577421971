use mathlib.Core.Path.{refl, ap, ◌∙◌}
use native.Mathlib.Numerals.{add-one}
use native.Mathlib.Omega.{arith}
use Rattle.file_decoder.specs.Tables.{put_to}
use Rattle.file_decoder.proofs.rows.put_block.Goals as goal

pub loop-a-init : goal.loop-a-init
unfolding put_to
loop-a-init g c = λ r R. refl

pub row-requires : goal.row-requires
row-requires g c = c.requires.callable _ (omega arith)

pub loop-a-preserved : goal.loop-a-preserved
unfolding put_to
loop-a-preserved g c = λ r R.
    let e = c.loop-a.invariant r R in
    let d = R c.loop-a.a _ (omega arith) c.row.ensures in rw add-one (cc)

pub returns : goal.returns
returns g c = λ r R. c.loop-a.invariant r R ∙ ap (put_to _ _ r) (omega arith)
