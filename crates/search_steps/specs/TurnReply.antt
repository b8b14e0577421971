-- What a turn of the search replies and leaves in its room: whether its rules found a loss and the list that they reached are `reached` of the game;
-- the verdict is `search` of the game. List and leaf stand in the turn's words.
use Rattle.std.specs.Prelude.{◌≡◌, Bool, true, false, cond, List, ℕ, ◌+◌, ◌-◌, ◌*◌, ◌≤◌, ◌<◌, T, get_or, length, Option}
use Rattle.game.specs.Problem.{Problem}
use Rattle.game.specs.Position.{legal}
use Rattle.game.specs.Turn.{reached}
use Rattle.game.specs.Search.{Ending, solved, failed, search}
use Rattle.game.specs.Turns.{TurnOf}
use Rattle.solver_arrays.specs.Arrays.{States}
use Rattle.solver_arrays.specs.Words.{list_in, why_in, leaf_in}
use Rattle.search_leaf.specs.Leaf.{broken_mask}
use Rattle.search_words.specs.TurnSets.{ReasonsBelow}
use Rattle.search_steps.specs.declared.Outcome.{Outcome}
use Rattle.search_steps.specs.declared.Outcome.TheVariants.{Won, Lost}
use Rattle.solver_arrays.specs.declared.arrays.Arrays.{Arrays}

-- Whether the turn is won, whether its rules found a loss, and its conflict set; none where it is won.
abbrev pub won_of : Outcome → Bool
won_of Won = true
won_of (Lost ruled conflict) = false

abbrev pub loss_of : Outcome → Bool
loss_of Won = false
loss_of (Lost ruled conflict) = ruled

abbrev pub set_of : Outcome → ℕ
set_of Won = 0
set_of (Lost ruled conflict) = conflict

-- The reply in numbers and words: won with the leaf in the words, or lost with the conflict set.
unfoldable pub reply_in : ℕ → Bool → ℕ → List ℕ → Ending
reply_in n won conflict w = cond won (solved (leaf_in n w)) (failed conflict)

-- How many words the turn after d plays and the turns below it have.
abbrev pub room_of : ℕ → ℕ → ℕ
room_of n d = 128 * (n + 1 - d)

-- The words w hold a turn that a search under S may come to, after the d plays p.
pub record TurnIn (P : Problem) (n S c d : ℕ) (p w : List ℕ) : Type 0 where
  pub plays : List ℕ
  pub legal-start : T (legal P plays)
  pub turn : TurnOf P S plays c p (list_in n w) (why_in n w)
  pub count : length p ≡ d
  pub reasons : ReasonsBelow n w

-- The leaf of a turn and the words of those below it, up to t, are zero.
abbrev pub Blank : ℕ → List ℕ → Type 0
Blank t w = (k : ℕ) → 96 ≤ k → k < t → get_or w k 0 ≡ 0

-- The words w' that a turn with the words w, up to t, leaves: behind domains and reasons zero but for the n values of a leaf, and these too where
-- it is lost; those beyond as they were.
pub record Leaves (n t : ℕ) (won : Bool) (w w' : List ℕ) : Type 0 where
  pub size : length w' ≡ length w
  pub behind : (k : ℕ) → 96 + n ≤ k → k < t → get_or w' k 0 ≡ 0
  pub small : (j : ℕ) → j < n → get_or w' (96 + j) 0 < 16
  pub lost : won ≡ false → (k : ℕ) → 96 ≤ k → k < t → get_or w' k 0 ≡ 0
  pub beyond : (k : ℕ) → t ≤ k → get_or w' k 0 ≡ get_or w k 0

-- Whether the rules of the turn after the plays p find a loss, and the list that they leave in the words w', at a loss as the rule that found it left
-- the list: "The turn's statement names the list so reached".
pub record Reaches (P : Problem) (n S c : ℕ) (p w w' : List ℕ) (lost : Bool) : Type 0 where
  pub loss : lost ≡ (reached P S c p (list_in n w)).loss
  pub list : list_in n w' ≡ (reached P S c p (list_in n w)).list

module _ (n : ℕ) (A : Arrays) where
  -- The words w hold a turn of some problem that the arrays state, and some plays. Without them nothing is known of the words between two steps
  -- of a turn.
  pub record Stands (S c d : ℕ) (w : List ℕ) : Type 0 where
    pub problem : Problem
    pub states : States problem n A
    pub plays : List ℕ
    pub turn : TurnIn problem n S c d plays w

  -- At the last turn, the mask r tells the constraint that the play breaks first.
  abbrev pub TellsBroken : (S c : ℕ) (w : List ℕ) (r : Option ℕ) → Type 0
  TellsBroken S c w r = (P : Problem) → States P n A → (p : List ℕ) → TurnIn P n S c n p w
      → r ≡ broken_mask P n p

  -- What a turn replies and leaves, for every problem that the arrays state and all plays of a turn that the words hold.
  pub record TurnReplies (S c d : ℕ) (w w' : List ℕ) (o : Outcome) : Type 0 where
    pub reach : (P : Problem) → States P n A → (p : List ℕ) → TurnIn P n S c d p w → Reaches P n S c p w w' (loss_of o)
    pub reply : (P : Problem) → States P n A → (p : List ℕ) → TurnIn P n S c d p w
        → search P S c (n - d) p (list_in n w) (why_in n w) ≡ reply_in n (won_of o) (set_of o) w'
    pub room : Leaves n (room_of n d) (won_of o) w w'
