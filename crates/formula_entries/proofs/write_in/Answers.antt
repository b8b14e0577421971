use borrow.Author.Rules.{rules}
use Rattle.formula_entries.specs.Told.{text_test}
use Rattle.formula_entries.proofs.EntryLaws.{short_writes, long_writes}
use Rattle.formula_entries.proofs.write_in.Goals as goal

pub returns-in_err-needed : goal.returns-in_err-needed
unfolding text_test
returns-in_err-needed c = short_writes _ _ _ c.measure-size.ensures _ c.needed.ensures _ c.in_err-needed.was (search rules)

pub returns : goal.returns
unfolding text_test
returns c = long_writes _ _ _ c.measure-size.ensures _ c.needed.ensures _ c.in_ok-needed.was c.put_formula.ensures
