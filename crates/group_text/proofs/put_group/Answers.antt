use mathlib.Core.Path.{◌≡◌}
use native.Mathlib.Numerals.{add-one}
use native.Mathlib.Omega.{arith}
use Rattle.buffer.specs.Stored.{joined}
use Rattle.buffer.proofs.PutLaws.{put_none, put_more, put_last, put-joined}
use Rattle.group_text.specs.Text.{group_line}
use Rattle.group_text.proofs.put_group.Goals as goal

pub loop-i-init : goal.loop-i-init
unfolding joined
loop-i-init c = put_none _

pub loop-i-preserved : goal.loop-i-preserved
loop-i-preserved c = rw add-one (put-joined _ _ c.loop-i.invariant c.put_member.ensures)

pub returns : goal.returns
unfolding group_line
returns c =
    let e : c.loop-i.i ≡ c.args.n = omega arith in
    let members = rw e at c.loop-i.invariant in
    put_more _ c.put.ensures (put_more _ c.put_number.ensures (put_more _ c.put-2.ensures (put_more _ members (put_last c.put-3.ensures))))
