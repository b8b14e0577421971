use mathlib.Core.Path.{◌∙◌}
use borrow.Author.Rules.{rules}
use Rattle.refusal.proofs.Chain.{stops, goes}
use Rattle.file_layout.specs.Layout.{opened}
use Rattle.file_layout.proofs.file_record.FileRecord.opened.Goals as goal

pub returns-in_err-needed : goal.returns-in_err-needed
unfolding opened
returns-in_err-needed c = (search rules) ∙ stops _ _ (cc) c.in_err-needed.was

pub returns-in_err-needed-2 : goal.returns-in_err-needed-2
unfolding opened
returns-in_err-needed-2 c = goes _ _ (cc) c.in_ok-needed.was ((search rules) ∙ stops _ _ (cc) c.in_err-needed-2.was)

pub returns : goal.returns
unfolding opened
returns c = goes _ _ (cc) c.in_ok-needed.was (goes _ _ (cc) c.in_ok-needed-2.was (cc))
