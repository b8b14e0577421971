use borrow.Author.Rules.{rules}
use Rattle.group_entries.proofs.EntryLaws.{refused_groups, file_groups, given_posed}
use Rattle.group_entries.proofs.groups.Goals as goal

pub returns-in_err-decode_ordinary : goal.returns-in_err-decode_ordinary
returns-in_err-decode_ordinary c =
    let o = refused_groups _ _ (c.decode_ordinary.ensures.refused _ c.in_err-decode_ordinary.was) (search rules) in record { told = o.0; shown = o.1 }

pub returns : goal.returns
returns c = let o = file_groups _ _ (c.decode_ordinary.ensures.given c.in_ok-decode_ordinary.was) _ c.groups_in.ensures in record { told = o.0; shown = o.1 }

pub groups_in-requires : goal.groups_in-requires
groups_in-requires c = given_posed _ _ (c.decode_ordinary.ensures.given c.in_ok-decode_ordinary.was)
