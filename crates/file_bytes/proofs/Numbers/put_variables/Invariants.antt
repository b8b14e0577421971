use mathlib.Core.Path.{◌≡◌}
use Rattle.mask.specs.Mask.{bit}
use Rattle.buffer.specs.Stored.{stored}
use Rattle.file_bytes.specs.Bytes.{variables_bytes, domain_in}
use Rattle.file_bytes.proofs.Numbers.put_variables.Given as goal

abbrev pub invariant-loop-k : goal.invariant-loop-k
invariant-loop-k l = l.buf ≡ stored l.initial.buf l.at (variables_bytes (bit l.self.universal) (domain_in l.domains) l.k)
