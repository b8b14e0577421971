use mathlib.Core.Path.{sym, ◌∙◌}
use native.Mathlib.Omega.{arith}
use borrow.Author.Rules.{rules}
use Rattle.refusal.proofs.Chain.{stops, goes}
use Rattle.file_layout.proofs.LayoutLaws.{opened_out}
use Rattle.file_records.specs.Records.{qp_test}
use Rattle.file_records.proofs.head.qp_test.Goals as goal

pub word-requires : goal.word-requires
word-requires c = omega (arith, opened_out _ _ _ _ (sym c.opened.ensures ∙ c.in_ok-opened.was))

pub returns-in_err-opened : goal.returns-in_err-opened
unfolding qp_test
returns-in_err-opened c = (search rules) ∙ stops _ _ (cc) c.in_err-opened.was

pub returns : goal.returns
unfolding qp_test
returns c = goes _ _ (cc) c.in_ok-opened.was (cc)
