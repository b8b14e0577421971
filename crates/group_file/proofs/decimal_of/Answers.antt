use Rattle.std.proofs.Common.{rules, refl, sym, ap, ◌∙◌}
use Rattle.std.proofs.lemmas.List.{take_all}
use Rattle.std.proofs.lemmas.List.Folds.{list_all_more, list_all_at}
use Rattle.std.specs.Char.{is_ascii_digit}
use Rattle.std.specs.List.{list_all}
use Rattle.group_file.specs.Decimal.{decimal_of, number}
use Rattle.group_file.proofs.NumberLaws.{one_more}
use Rattle.group_file.proofs.decimal_of.Goals as goal

pub loop-byte-init : goal.loop-byte-init
unfolding number
loop-byte-init c = (search rules, search rules)

pub returns-then-not-is_ascii_digit : goal.returns-then-not-is_ascii_digit
unfolding decimal_of
returns-then-not-is_ascii_digit c =
    rw (list_all_at is_ascii_digit c.args.text.now c.loop-byte.byte-index 0 c.loop-byte-test.true (sym c.is_ascii_digit.ensures.value ∙ c.if-not-is_ascii_digit.true)) refl

pub loop-byte-preserved : goal.loop-byte-preserved
loop-byte-preserved c = (
  list_all_more is_ascii_digit c.args.text.now c.loop-byte.byte-index 0 c.loop-byte-test.true
      ∙ rw (c.loop-byte.invariant.0, sym c.is_ascii_digit.ensures.value, c.if-not-is_ascii_digit.false) refl,
  one_more c.args.text.now c.loop-byte.byte-index c.loop-byte-test.true c.loop-byte.invariant.1 c.saturating_mul.ensures c.saturating_add-out.ensures,
)

pub returns-then-is_empty : goal.returns-then-is_empty
unfolding decimal_of
returns-then-is_empty c =
    let whole = take_all c.loop-byte.byte-index c.args.text.now c.loop-byte-test.false in
    rw (sym (ap (list_all is_ascii_digit) whole) ∙ c.loop-byte.invariant.0, sym c.is_empty.ensures ∙ c.if-is_empty.true) refl

pub returns-else-is_empty : goal.returns-else-is_empty
unfolding decimal_of
returns-else-is_empty c =
    let whole = take_all c.loop-byte.byte-index c.args.text.now c.loop-byte-test.false in
    rw (sym (ap (list_all is_ascii_digit) whole) ∙ c.loop-byte.invariant.0, sym c.is_empty.ensures ∙ c.if-is_empty.false, c.loop-byte.invariant.1, whole) refl
