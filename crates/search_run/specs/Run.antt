-- What a run of the search from a position finds.
use Rattle.std.specs.Prelude.{◌≡◌, List, [], ℕ, ◌+◌, ◌*◌, T}
use Rattle.game.specs.Lists.{spread}
use Rattle.game.specs.Problem.{Problem}
use Rattle.game.specs.Turn.{first_list, reached}
use Rattle.game.specs.Search.{Ending, solved, failed, is_solved, search_from}
use Rattle.solver_arrays.specs.declared.arrays.Arrays.{Arrays}
use Rattle.solver_arrays.specs.Arrays.{Poses, Posed}
use Rattle.position.specs.declared.Position.{Position}
use Rattle.position.specs.Position.{plays_of, fits_in}
use Rattle.search_steps.specs.TurnReply.{won_of, loss_of, set_of}
use Rattle.search_run.specs.declared.Ran.{Ran}
use Rattle.search_run.specs.declared.Start.{Start}

-- "A judgement or marking takes 128·(n+1) words of 16 bits": 128 for each turn, over n variables decoded; and for a problem.
abbrev pub room_words : ℕ → ℕ
room_words n = 128 * (n + 1)

abbrev pub room_needed : Problem → ℕ
room_needed P = room_words P.n

-- "these entries bring their own room": as many words as a file of 32 variables needs.
abbrev pub held_room : ℕ
held_room = room_words 32

-- The leaf of a verdict in 32 places; zeros where it is lost.
unfoldable pub leaf_shown : Ending → List ℕ
leaf_shown (solved q) = spread q
leaf_shown (failed S) = spread []

-- Its conflict set; none where it is won.
unfoldable pub conflict_shown : Ending → ℕ
conflict_shown (solved q) = 0
conflict_shown (failed S) = S

-- What the run r under S from the position p finds in P: whether the rules of the first turn find a loss, and the list that they reach, at a loss as
-- the rule that found it left the list; whether the search is won, its conflict set where it is lost, its leaf where it is won.
pub record Finds (P : Problem) (S : ℕ) (p : Position) (r : Ran) : Type 0 where
  pub loss : loss_of r.outcome ≡ (reached P S 0 (plays_of p) (first_list P (plays_of p))).loss
  pub list : r.list ≡ spread (reached P S 0 (plays_of p) (first_list P (plays_of p))).list
  pub won : won_of r.outcome ≡ is_solved (search_from P S (plays_of p))
  pub conflict : set_of r.outcome ≡ conflict_shown (search_from P S (plays_of p))
  pub leaf : r.leaf ≡ leaf_shown (search_from P S (plays_of p))

-- What a run is given: the arrays state some problem, and its position fits them.
pub record Startable (s : Start) (A : Arrays) : Type 0 where
  pub fits : T (fits_in s.position A.n A.domains)
  pub posed : Posed A

-- In every problem that the arrays state.
abbrev pub Runs : (A : Arrays) (S : ℕ) (p : Position) (r : Ran) → Type 0
Runs A S p r = (P : Problem) → Poses P A → Finds P S p r
