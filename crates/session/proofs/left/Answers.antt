use mathlib.Core.Path.{◌≡◌, refl, ◌∙◌}
use Rattle.std.specs.Prelude.{Result, Ok, Err}
use Rattle.std.specs.Result.{result_unwrap_or}
use Rattle.refusal.specs.declared.reason.Refusal.{Refusal}
use Rattle.position.specs.declared.Position.{Position}
use Rattle.session.specs.Told.{left}
use Rattle.session.proofs.left.Goals as goal

left_is : (reply : Result Position Refusal) (p : Position) → result_unwrap_or reply p ≡ left p reply
unfolding left
left_is (Ok q) p = refl
left_is (Err e) p = refl

pub returns : goal.returns
returns c = let e : c.unwrap_or.result ≡ result_unwrap_or c.args.reply c.args.p = c.unwrap_or.ensures in e ∙ left_is _ _
