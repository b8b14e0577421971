-- The tests before a search.
use mathlib.Core.Path.{◌≡◌, sym, ap, ap₂, ◌∙◌}
use mathlib.Core.Bool.{Bool, true, false}
use mathlib.Core.List.{List}
use Prim.Native.Nat.{ℕ, ◌+◌, ◌≤◌}
use lib.Dec.{T}
use lib.ListN.{take}
use lib.Seq.{get_or-take}
use native.Mathlib.Omega.{arith}
use borrow.Author.Tests.{leb-true, le-leb}
use Rattle.mask.proofs.Logic.{true_holds}
use Rattle.std.specs.Prelude.{Err}
use Rattle.refusal.specs.declared.reason.Reason.TheVariants.{Rules, Misfit}
use Rattle.refusal.specs.Chain.{Test, Fine, ◌then◌, need}
use Rattle.refusal.proofs.Chain.{then_fine, need_fine, need_ok}
use Rattle.rule_set.specs.RuleSet.{is_rule_set}
use Rattle.game.specs.Problem.{Problem}
use Rattle.game.specs.Ternary.{TernaryProblem}
use Rattle.position.specs.declared.Position.{Position}
use Rattle.position.specs.Position.{fits_in}
use Rattle.position.proofs.Fitting.{fits_same}
use Rattle.search_run.specs.Run.{held_room}
use Rattle.judging.specs.Tests.{position_test, room_for, room_test, judge_test, place_test}

-- What fine tests say.
pub room_fine : (needed words : ℕ) → room_test needed words ≡ Fine → needed ≤ words
unfolding room_test
room_fine needed words e = leb-true needed words (need_fine _ _ e)

-- The room that entries hold is enough.
pub room_held : (J : TernaryProblem) → J.binary.n + J.ternary ≤ 32 → room_test (room_for J) held_room ≡ Fine
unfolding room_test
room_held J h = need_ok _ _ (le-leb (room_for J) held_room (omega arith))

-- v being the verdict.
pub place_fine : (n : ℕ) (masks : List ℕ) (p : Position) (needed words : ℕ) (v : Test) → v ≡ place_test n masks p needed words → v ≡ Fine
    → T (fits_in p n masks) × (needed ≤ words)
unfolding place_test
place_fine n masks p needed words v t z =
    let a = then_fine _ _ (sym t ∙ z) in
    (true_holds (need_fine _ _ a.0), room_fine needed words a.1)

module _ (n : ℕ) (masks : List ℕ) (p : Position) (set needed words : ℕ) where
  pub judge_fits : judge_test n masks p set needed words ≡ Fine → T (fits_in p n masks)
  unfolding judge_test position_test
  judge_fits e = true_holds (need_fine _ _ (then_fine _ _ (then_fine _ _ e).0).1)

  -- Behind a rule set come the other tests; a number that is none is 8.
  pub set-goes : is_rule_set set ≡ true → judge_test n masks p set needed words ≡ place_test n masks p needed words
  unfolding judge_test place_test position_test need ◌then◌
  set-goes e = rw e

  pub set_stops : is_rule_set set ≡ false → judge_test n masks p set needed words ≡ Err Rules
  unfolding judge_test position_test need ◌then◌
  set_stops e = rw e

-- The tests are those of the problem.
pub position_same : (P : Problem) (n : ℕ) (masks : List ℕ) → P.n ≡ n → P.domain ≡ take n masks → (p : Position) (set : ℕ) → position_test n masks p set ≡ position_test P.n P.domain p set
unfolding position_test
position_same P n masks e f p set =
    ap (λ (b : Bool). need (is_rule_set set) Rules then need b Misfit) (fits_same p n masks (take n masks) (λ i l. sym (get_or-take n masks i 0 l)) ∙ ap₂ (fits_in p) (sym e) (sym f))

pub test_same : (P : Problem) (n : ℕ) (masks : List ℕ) → P.n ≡ n → P.domain ≡ take n masks → (p : Position) (set needed words : ℕ)
    → judge_test n masks p set needed words ≡ judge_test P.n P.domain p set needed words
unfolding judge_test
test_same P n masks e f p set needed words = ap (λ (v : Test). v then room_test needed words) (position_same P n masks e f p set)
