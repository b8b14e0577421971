use borrow.Author.Rules.{rules}
use mathlib.Core.Path.{◌≡◌}
use native.Mathlib.Numerals.{add-one}
use native.Mathlib.Omega.{arith}
use Rattle.buffer.specs.Stored.{joined}
use Rattle.buffer.proofs.PutLaws.{put_none, put_more, put_last, put-joined, put-stored}
use Rattle.group_text.specs.Text.{groups_text}
use Rattle.group_text.proofs.render_groups.Goals as goal

pub loop-g-init : goal.loop-g-init
unfolding joined
loop-g-init c = put_none _

pub loop-g-preserved : goal.loop-g-preserved
loop-g-preserved c = rw add-one (put-joined _ _ c.loop-g.invariant c.put_group.ensures)

pub returns : goal.returns
unfolding groups_text
returns c =
    let e : c.loop-g.g ≡ c.args.groups.now.count = omega arith in
    let q = put_more _ c.put_line.ensures (put_more _ c.put_line-2.ensures (put_last (rw e at c.loop-g.invariant))) in
    record { value = omega (arith, c.new-t.ensures.place, q.ends); out_after = put-stored c.new-t.ensures.place c.new-t.ensures.buffer q (search rules) }
