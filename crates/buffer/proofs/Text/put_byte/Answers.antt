use borrow.Author.Rules.{rules}
use Rattle.buffer.proofs.PutLaws.{put_byte, put_beyond}
use Rattle.buffer.proofs.Text.put_byte.Goals as goal
use Rattle.buffer.proofs.Text.put_byte.Goals.{then-self, else-self}

pub returns : goal.returns
returns c =
    elim c.if-self.branch [
      | then-self w ↦ put_byte _ (search rules) (search rules) (search rules)
      | else-self w ↦ put_beyond _ (search rules) w.if-self.false (search rules) (search rules)
    ]
