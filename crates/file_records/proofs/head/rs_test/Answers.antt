use mathlib.Core.Path.{sym, ap, ap₂, ◌∙◌}
use borrow.Author.Rules.{rules}
use Rattle.refusal.specs.Chain.{need}
use Rattle.refusal.proofs.Chain.{stops, goes, so, not_so}
use Rattle.rule_set.specs.RuleSet.{is_rule_set}
use Rattle.file_records.specs.Records.{rs_test}
use Rattle.file_records.proofs.head.rs_test.Goals as goal

pub returns-then-not-is_marked : goal.returns-then-not-is_marked
unfolding rs_test
returns-then-not-is_marked c = sym (not_so _ _ (cc))

pub returns-in_err-opened : goal.returns-in_err-opened
unfolding rs_test
returns-in_err-opened c = (search rules) ∙ stops _ _ (cc) c.in_err-opened.was ∙ sym (so _ _ (cc))

pub returns : goal.returns
unfolding rs_test
returns c = goes _ _ (cc) c.in_ok-opened.was (c.needed.ensures ∙ ap₂ need (c.is_rule_set.ensures ∙ ap is_rule_set c.byte.ensures.0) c.at.ensures) ∙ sym (so _ _ (cc))
