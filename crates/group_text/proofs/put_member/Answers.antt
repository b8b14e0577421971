use borrow.Author.Tests.{eq-eqb, ne_eqb}
use Rattle.buffer.proofs.PutLaws.{put_none, put_behind}
use Rattle.group_text.specs.Text.{member_text}
use Rattle.group_text.proofs.put_member.Goals as goal

pub returns-then-groups-i : goal.returns-then-groups-i
unfolding member_text
returns-then-groups-i c = rw (eq-eqb _ _ c.if-groups-i.true) (put_behind c.put.ensures c.put_number.ensures)

pub returns-else-groups-i : goal.returns-else-groups-i
unfolding member_text
returns-else-groups-i c = rw (ne_eqb _ _ c.if-groups-i.false) (put_none _)
