use Rattle.file_bytes.proofs.RecordLaws.{all_stored}
use Rattle.file_bytes.specs.Bytes.{handed_with}
use Rattle.file_bytes.proofs.Numbers.put.Goals as goal

pub returns : goal.returns
returns c = let a = c.args in
    rw (
      c.put_two.ensures,
      c.put_ternaries.ensures,
      c.put_constraints.ensures,
      c.put_variables.ensures,
      c.put_head.ensures,
      c.start-s.ensures.0,
      c.requires.count,
    )
    (all_stored (handed_with a.self a.domains.now a.constraints.now a.ternaries.now) c.requires.sized _)
