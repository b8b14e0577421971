use Prim.Native.Nat.{ℕ, ◌+◌, ◌<◌}
use lib.ListN.{get_or}
use mathlib.Core.Path.{◌≡◌}
use Rattle.solver_arrays.specs.Words.{Nonzero}
use Rattle.search_rules.proofs.CheckLaws.{Checking}
use Rattle.search_rules.specs.RuledTurn.{Narrowed, Heeded}
use Rattle.search_rules.proofs.check_plays.Given as goal

abbrev pub invariant-loop-x : goal.invariant-loop-x
invariant-loop-x l = record {
  small : (k : ℕ) → get_or l.w k 0 < 65536;
  lasts : Nonzero l.arrays.n l.w;
  checking : Checking l.arrays.n l.arrays l.c l.d l.x l.initial.w l.w;
  narrowed : Narrowed l.arrays.n l.c l.d l.narrowed l.initial.w l.w;
  before : l.x ≡ l.c → l.w ≡ l.initial.w;
  first : l.x ≡ l.c + 1 → Heeded l.arrays.n l.arrays l.c l.initial.w l.w;
}
