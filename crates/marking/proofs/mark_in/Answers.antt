use borrow.Author.Rules.{rules}
use mathlib.Core.Path.{refl, sym, ap, ◌∙◌}
use Rattle.rule_set.specs.RuleSet.{told as toldSet}
use Rattle.rule_set.proofs.RuleSetLaws.{chosen_set, chosen_none}
use Rattle.marking.proofs.ReplyLaws.{marks_none, marks_with}
use Rattle.marking.proofs.mark_in.Goals as goal

pub returns-in_err-s : goal.returns-in_err-s
returns-in_err-s c =
    let z = chosen_none c.in_err-s.field-0.0 _ (ap toldSet (sym c.in_err-s.was) ∙ c.new.ensures) in
    marks_none _ _ _ _ _ _ z.0 z.1 refl (search rules)

pub returns : goal.returns
returns c =
    let z = chosen_set _ _ (ap toldSet (sym c.in_ok-s.was) ∙ c.new.ensures) in
    marks_with _ _ _ c.args.room.now _ _ _ z.0 z.1 c.mark_with.ensures
