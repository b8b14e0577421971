use lib.ListN.{length-set}
use native.Mathlib.Omega.{arith}
use Rattle.file_bytes.proofs.RecordLaws.{start_least, start_some, head_none, head_some}
use Rattle.file_bytes.proofs.Numbers.put_head.Goals as goal

pub put_two-requires : goal.put_two-requires
put_two-requires c = omega (arith, start_least c.args.self.rules)

pub bounds-buf-2 : goal.bounds-buf-2
bounds-buf-2 c = omega (arith, start_least c.args.self.rules)

pub put_word-requires : goal.put_word-requires
put_word-requires c = simp length-set (omega (arith, start_least c.args.self.rules))

pub put_two-requires-in-Some : goal.put_two-requires-in-Some
put_two-requires-in-Some c = omega (arith, start_some _ _ c.in-Some.is, simp length-set at c.put_word.auto.buf)

pub bounds-buf-7 : goal.bounds-buf-7
bounds-buf-7 c = omega (arith, start_some _ _ c.in-Some.is, simp length-set at c.put_word.auto.buf)

pub returns-in-Some : goal.returns-in-Some
returns-in-Some c = rw (c.put_two-in-Some.ensures, c.put_word.ensures, c.put_two.ensures) (head_some _ _ _ _ _ c.in-Some.is)

pub returns-in_default : goal.returns-in_default
returns-in_default c = rw (c.put_word.ensures, c.put_two.ensures) (head_none _ _ _ _ c.in_default.is)
