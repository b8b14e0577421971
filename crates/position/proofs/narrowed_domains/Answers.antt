use borrow.Author.Rules.{rules}
use lib.ListN.{length}
use lib.Seq.{drop-set-lt}
use mathlib.Core.Path.{◌≡◌, ◌∙◌}
use native.Mathlib.Omega.{arith}
use Rattle.position.proofs.Fitting.{fits_at_lem}
use Rattle.position.proofs.Narrowing.{list-next, written_all}
use Rattle.position.specs.Position.{fits_at}
use Rattle.position.proofs.narrowed_domains.Goals as goal

pub place_mask-requires : goal.place_mask-requires
unfolding fits_at
place_mask-requires c = fits_at_lem _ _ _ c.requires.2 _ (omega arith)

pub loop-i-preserved : goal.loop-i-preserved
loop-i-preserved c =
    let l = c.loop-i in
    let b = c.loop-i-test.true in
    let k : length c.args.p.values ≡ 32 = search rules in (
      drop-set-lt _ _ _ _ b ∙ l.invariant.0,
      λ h. list-next _ _ _ c.requires.2 c.requires.0 k h _ _ _ b (search rules) c.place_mask.ensures (l.invariant.1 h),
    )

pub returns : goal.returns
returns c =
    let e : c.loop-i.i ≡ c.args.n = omega arith in
    written_all _ _ _ _ _ (rw e at c.loop-i.invariant.1) c.loop-i.invariant.0
