use mathlib.Core.Path.{◌≡◌, sym, ap}
use borrow.Author.Rules.{rules}
use Rattle.std.specs.Prelude.{Err}
use Rattle.refusal.specs.declared.reason.Refusal.TheVariants.{InFile, InCall}
use Rattle.host_replies.specs.Replies.{kind_of, number_of, place_of, answer_of}
use Rattle.host_replies.proofs.ReplyLaws.{head_of}
use Rattle.host_replies.proofs.calls.CallAnswerFromResultRefusal.from.Goals as goal

pub returns-in-Ok : goal.returns-in-Ok
unfolding answer_of kind_of number_of place_of
returns-in-Ok g c = sym (ap head_of c.in-Ok.is)

pub returns-in-Err-InCall : goal.returns-in-Err-InCall
unfolding answer_of kind_of number_of place_of
returns-in-Err-InCall g c = let e : c.args.answer ≡ Err (InCall c.in-Err-InCall.reason) = search rules in rw c.from.ensures (sym (ap head_of e))

pub returns-in-Err-InFile : goal.returns-in-Err-InFile
unfolding answer_of kind_of number_of place_of
returns-in-Err-InFile g c = let e : c.args.answer ≡ Err (InFile c.in-Err-InFile.fault) = search rules in rw c.from-in-Err-InFile.ensures (sym (ap head_of e))
