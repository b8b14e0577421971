use mathlib.Core.Path.{◌≡◌, sym, ap}
use borrow.Author.Rules.{rules}
use Rattle.std.specs.Prelude.{Result, Ok, Option, None, Some}
use Rattle.refusal.specs.declared.reason.Fault.{Fault}
use Rattle.file_lookup.specs.declared.ternary.Body.{Body}
use Rattle.file_lookup.specs.Ternary.{told_body}
use Rattle.host_replies.specs.declared.files.FoundBody.{FoundBody}
use Rattle.host_replies.specs.Replies.{kind_of, number_of, place_of, value_of, count_from, found_body_of}
use Rattle.host_replies.proofs.files.FoundBodyFromResultOptionBodyFault.from.Goals as goal

abbrev shown : Result (Option Body) Fault → FoundBody
shown r = found_body_of (told_body r)

pub returns-in-Ok-Some : goal.returns-in-Ok-Some
unfolding found_body_of kind_of number_of place_of value_of count_from
returns-in-Ok-Some c = let e : c.args.answer ≡ Ok (Some c.in-Ok-Some.b) = search rules in sym (ap shown e)

pub returns-in-Ok-None : goal.returns-in-Ok-None
unfolding found_body_of kind_of number_of place_of value_of count_from
returns-in-Ok-None c = let e : c.args.answer ≡ Ok None = search rules in sym (ap shown e)

pub returns-in-Err : goal.returns-in-Err
unfolding found_body_of kind_of number_of place_of value_of count_from
returns-in-Err c = rw c.from.ensures (sym (ap shown c.in-Err.is))
