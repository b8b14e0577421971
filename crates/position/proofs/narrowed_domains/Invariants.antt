use Prim.Native.Nat.{◌≤◌}
use lib.ListN.{length, take, drop}
use mathlib.Core.Path.{◌≡◌}
use Rattle.position.proofs.Narrowing.{list}
use Rattle.position.proofs.narrowed_domains.Given as goal

abbrev pub invariant-loop-i : goal.invariant-loop-i
invariant-loop-i l = (drop l.n l.w ≡ drop l.n l.initial.w) × (l.n ≤ length l.domains → take l.i l.w ≡ take l.i (list l.p l.n l.domains))
