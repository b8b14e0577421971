use Rattle.file_bytes.specs.Bytes.{mark_bytes, pair_bytes, one_in, two_in}
use Rattle.file_bytes.proofs.RecordLaws.{constraint_stored}
use Rattle.file_bytes.proofs.records.put_constraint.Goals as goal

pub returns : goal.returns
unfolding mark_bytes pair_bytes
returns c = let xs = c.args.xs.now in
    rw (c.put_rows.ensures, c.put_two-2.ensures, c.put_two.ensures)
    (constraint_stored _ _ (one_in xs c.args.t) (two_in xs c.args.t) _)
