use mathlib.Core.Path.{◌≡◌}
use lib.ListN.{length}
use Rattle.host.specs.Unpack.{place_in}
use Rattle.host.proofs.Places.{Upto}
use Rattle.host.proofs.unpack.unpacked.Given as goal

abbrev pub invariant-loop-k : goal.invariant-loop-k
invariant-loop-k l = (length l.values ≡ 32) × Upto (place_in l.a l.b l.c l.d) l.k l.values
