use mathlib.Core.Path.{◌∙◌}
use borrow.Author.Rules.{rules}
use Rattle.refusal.proofs.Chain.{stops, goes}
use Rattle.file_records.specs.Records.{en_test}
use Rattle.file_records.proofs.end.en_test.Goals as goal

pub returns-in_err-opened : goal.returns-in_err-opened
unfolding en_test
returns-in_err-opened c = (search rules) ∙ stops _ _ (cc) c.in_err-opened.was

pub returns : goal.returns
unfolding en_test
returns c = goes _ _ (cc) c.in_ok-opened.was (cc)
