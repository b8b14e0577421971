-- In the words of a turn below another only the new play may have an effect on others, where the rule set has rule 1.
use mathlib.Core.List.{List}
use Prim.Native.Nat.{ℕ, ◌<◌}
use native.Mathlib.Omega.{arith}
use lib.ListN.{get_or}
use Rattle.theory.proofs.Quiet.{turn_quiet}
use Rattle.solver_arrays.specs.Words.{list_in, why_in}
use Rattle.rule_arc.proofs.QuietLaws.{calm_in}
use Rattle.search_rules.specs.RuledTurn.{Settled}
use Rattle.search_steps.specs.TurnReply.{Stands}
use Rattle.search_steps.proofs.StandLaws.{plays_in}
use Rattle.solver_arrays.specs.declared.arrays.Arrays.{Arrays}

pub settled : (n : ℕ) (A : Arrays) (S c d : ℕ) (w : List ℕ) → ((k : ℕ) → get_or w k 0 < 65536) → Stands n A S c d w → Settled n A S c d w
settled n A S c d w small s one z =
    let P = s.problem in
    let t = s.turn in
    let plays = plays_in P n A s.states S c d s.plays w small t in
    let e = t.count in
    let g = s.states.size in
    record {
      single = λ k l m. (get_or s.plays k 0, plays.value k l m, plays.word k l m);
      calm = λ x k lx lk o. calm_in P n A s.states w small x k lx lk
          (turn_quiet P S t.plays t.legal-start c s.plays (list_in n w) (why_in n w) t.turn one z x k (omega arith) (omega arith) (λ i j. o i (omega arith)));
    }
