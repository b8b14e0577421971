use Prim.Native.Nat.{ℕ}
use borrow.Author.Rules.{rules}
use mathlib.Core.Path.{ap, ◌∙◌}
use Rattle.file_constraints.specs.Constraints.{constraint_row}
use Rattle.file_decoder.specs.Tables.{linked, numbered, column_of, near_with, index_with, rows_with}
use Rattle.file_decoder.proofs.entries.put_constraint.Goals as goal

pub returns-clause-near_after : goal.returns-clause-near_after
unfolding near_with
returns-clause-near_after c = c.put_pair.ensures.near_after ∙ ap (λ (p : ℕ × ℕ). linked c.args.arrays.now.near p.0 p.1) c.pair-i.ensures

pub returns-clause-index_after : goal.returns-clause-index_after
unfolding index_with
returns-clause-index_after c =
    c.put_pair.ensures.index_after ∙ ap (λ (p : ℕ × ℕ). numbered c.args.arrays.now.index p.0 p.1 c.args.c.now.number) c.pair-i.ensures

pub returns-clause-rows_after : goal.returns-clause-rows_after
unfolding rows_with
returns-clause-rows_after c =
    let a = c.args.c.now in
    c.put_pair.ensures.rows_after (constraint_row a.file.now a.start a.number) (column_of a.file.now a.start a.number) (λ a x l h. search rules) (λ b x l h. search rules)
