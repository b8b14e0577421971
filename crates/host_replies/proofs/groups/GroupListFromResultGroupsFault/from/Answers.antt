use mathlib.Core.Path.{sym, ap}
use Rattle.std.specs.Prelude.{Result}
use Rattle.refusal.specs.declared.reason.Fault.{Fault}
use Rattle.group_labels.specs.declared.Groups.{Groups}
use Rattle.group_entries.specs.Told.{told_groups, groups_shown}
use Rattle.host_replies.specs.declared.groups.GroupList.{GroupList}
use Rattle.host_replies.specs.Replies.{kind_of, number_of, place_of, value_of, group_list_of}
use Rattle.host_replies.proofs.groups.GroupListFromResultGroupsFault.from.Goals as goal

abbrev shown : Result Groups Fault → GroupList
shown r = group_list_of (told_groups r) (groups_shown r)

pub returns-in-Ok : goal.returns-in-Ok
unfolding group_list_of kind_of number_of place_of value_of
returns-in-Ok c = sym (ap shown c.in-Ok.is)

pub returns-in-Err : goal.returns-in-Err
unfolding group_list_of kind_of number_of place_of value_of
returns-in-Err c = rw c.from.ensures (sym (ap shown c.in-Err.is))
