use mathlib.Core.Path.{◌≡◌}
use Rattle.search_run.specs.FirstTurn.{own_reasons}
use Rattle.search_run.proofs.first.own_reasons.Given as goal

abbrev pub invariant-loop-k : goal.invariant-loop-k
invariant-loop-k l = l.w ≡ own_reasons l.k l.initial.w
