-- What a search of a file from a position under a rule set finds.
use Rattle.std.specs.Prelude.{ℕ, Bool, false, cond, List, [], ◌∷◌, Result, Ok, Err}
use Rattle.game.specs.Lists.{spread}
use Rattle.refusal.specs.declared.reason.Refusal.{Refusal}
use Rattle.refusal.specs.Chain.{Test}
use Rattle.refusal.specs.Told.{Told, replied, reason_told, fault_told, refusal_told}
use Rattle.game.specs.Problem.{Problem}
use Rattle.game.specs.Ternary.{TernaryProblem}
use Rattle.game.specs.Turn.{first_list, reached}
use Rattle.game.specs.Search.{is_solved, search_from}
use Rattle.ternary_theory.specs.Expanded.{expanded}
use Rattle.file_decoder.specs.Read.{read_ternary}
use Rattle.position.specs.declared.Position.{Position}
use Rattle.position.specs.Position.{plays_of}
use Rattle.search_steps.specs.TurnReply.{won_of, loss_of, set_of}
use Rattle.search_run.specs.declared.Ran.{Ran}
use Rattle.search_run.specs.Run.{leaf_shown, conflict_shown}
use Rattle.judging.specs.Tests.{room_for, judge_test}

-- What is told; whether the rules of the first turn found a loss, and the list that they reached, in 32 places; the conflict set of a lost search; the
-- leaf of a won one, in 32 places.
pub record Findings : Type 0 where
  pub told : Told
  pub loss : Bool
  pub list : List ℕ
  pub conflict : ℕ
  pub leaf : List ℕ

-- Those of a run; a refused call finds nothing.
unfoldable pub findings_of : Ran → Findings
findings_of r = record { told = replied (cond (won_of r.outcome) 1 0 ∷ []); loss = loss_of r.outcome; list = r.list; conflict = set_of r.outcome; leaf = r.leaf }

unfoldable pub nothing : Told → Findings
nothing t = record { told = t; loss = false; list = spread []; conflict = 0; leaf = spread [] }

-- What an answer finds, where `told` is what its refusals tell.
abbrev pub found_by : {E : Type 0} → (E → Told) → Result Ran E → Findings
found_by told (Ok r) = findings_of r
found_by told (Err e) = nothing (told e)

abbrev pub found : Result Ran Refusal → Findings
found = found_by refusal_told

unfoldable pub found_for : Test → Findings → Findings
found_for (Ok u) o = o
found_for (Err e) o = nothing (reason_told e)

-- Over a problem P, under the rule set `set`: what the first turn reaches, and what the search hands up.
module _ (P : Problem) (p : Position) (set : ℕ) where
  unfoldable pub search_findings : Findings
  search_findings =
      let first = reached P set 0 (plays_of p) (first_list P (plays_of p)) in
      let v = search_from P set (plays_of p) in
      record { told = replied (cond (is_solved v) 1 0 ∷ []); loss = first.loss; list = spread first.list; conflict = conflict_shown v; leaf = leaf_shown v }

-- Over a problem J with three-way constraints: what is found in its ordinary problem, of all n + t variables; the first n are to play.
module _ (J : TernaryProblem) (p : Position) (set : ℕ) where
  open J.binary use {n, domain}

  unfoldable pub search_reply : ℕ → Findings
  search_reply words = found_for (judge_test n domain p set (room_for J) words) (search_findings (expanded J) p set)

-- Over a file f.
unfoldable pub search_found : List ℕ → Position → ℕ → ℕ → Findings
search_found f p set words = read_ternary f (λ e. nothing (fault_told e)) (λ J. search_reply J p set words)
