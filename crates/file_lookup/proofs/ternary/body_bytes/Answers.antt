use mathlib.Core.Path.{◌≡◌, sym, ◌∙◌}
use borrow.Author.Rules.{rules}
use Rattle.std.specs.Prelude.{Ok, Some, None}
use Rattle.file_lookup.specs.Ternary.{body_of}
use Rattle.file_lookup.proofs.TernaryLaws.{body_of_lem}
use Rattle.file_lookup.proofs.ternary.body_bytes.Goals as goal

pub returns-in-Ok-Some : goal.returns-in-Ok-Some
returns-in-Ok-Some c = let q : c.args.found ≡ Ok (Some c.in-Ok-Some.b) = search rules in c.part_at.ensures ∙ sym (body_of_lem _ _ _ q)

pub returns-in-Ok-None : goal.returns-in-Ok-None
unfolding body_of
returns-in-Ok-None c = let q : c.args.found ≡ Ok None = search rules in rw q

pub returns-in-Err : goal.returns-in-Err
unfolding body_of
returns-in-Err c = rw c.in-Err.is
