use mathlib.Core.Path.{◌≡◌, sym, ◌∙◌}
use borrow.Author.Rules.{rules}
use Rattle.std.specs.Prelude.{Ok, Some, None}
use Rattle.file_lookup.specs.Lookup.{rows_at, rows_of}
use Rattle.file_lookup.proofs.Lookup.{rows_of_lem}
use Rattle.file_lookup.proofs.rows.Goals as goal

pub returns-in-Ok-Some : goal.returns-in-Ok-Some
unfolding rows_at
returns-in-Ok-Some c = let q : c.args.found ≡ Ok (Some c.in-Ok-Some.p) = search rules in c.part_at.ensures ∙ sym (rows_of_lem _ _ _ q)

pub returns-in-Ok-None : goal.returns-in-Ok-None
unfolding rows_of
returns-in-Ok-None c = let q : c.args.found ≡ Ok None = search rules in rw q

pub returns-in-Err : goal.returns-in-Err
unfolding rows_of
returns-in-Err c = rw c.in-Err.is
