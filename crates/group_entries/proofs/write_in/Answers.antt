use borrow.Author.Rules.{rules}
use borrow.Author.Tests.{ltb-true}
use mathlib.Core.Path.{sym, ◌∙◌}
use Rattle.refusal.proofs.Chain.{need_fine}
use Rattle.group_entries.proofs.EntryLaws.{absent, present, selected_posed}
use Rattle.group_entries.proofs.write_in.Goals as goal

pub select-requires-clause-exists : goal.select-requires-clause-exists
select-requires-clause-exists c = ltb-true _ _ (need_fine _ _ (sym c.needed.ensures ∙ c.in_ok-needed.was))

pub write_problem-requires-clause-posed : goal.write_problem-requires-clause-posed
write_problem-requires-clause-posed c = selected_posed _ _ _ _ c.requires.posed c.select.ensures

pub returns-in_err-needed : goal.returns-in_err-needed
returns-in_err-needed c = absent _ _ c.groups_in-groups.ensures _ _ _ c.needed.ensures _ c.in_err-needed.was (search rules)

pub returns : goal.returns
returns c = present _ _ c.groups_in-groups.ensures _ _ _ c.needed.ensures _ _ _ _ c.in_ok-needed.was c.select.ensures c.write_problem.ensures
