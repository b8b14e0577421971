-- The first turn of a run: its words.
use Rattle.std.specs.Prelude.{◌≡◌, List, ℕ, zero, suc, ◌+◌, ◌^◌, ◌≤◌, ◌<◌, get_or, length, take}
use Rattle.game.specs.Problem.{Problem}
use Rattle.game.specs.Lists.{list_of}
use Rattle.game.specs.Turn.{first_list}
use Rattle.game.specs.Reasons.{first_reasons}
use Rattle.solver_arrays.specs.Words.{list_in, why_in, put_reason}
use Rattle.position.specs.declared.Position.{Position}
use Rattle.position.specs.Position.{plays_of}

-- The first t words are zero.
abbrev pub ZeroBelow : ℕ → List ℕ → Type 0
ZeroBelow t w = (k : ℕ) → k < t → get_or w k 0 ≡ 0

-- The t words from s on.
unfoldable pub words_from : ℕ → ℕ → List ℕ → List ℕ
words_from s t w = list_of t (λ j. get_or w (s + j) 0)

-- The words w with each of the first d variables its own reason.
unfoldable pub own_reasons : ℕ → List ℕ → List ℕ
own_reasons zero w = w
own_reasons (suc k) w = put_reason (own_reasons k w) k (2 ^ k)

-- The zero words w become w': they hold the list and the reasons of the first turn after the plays of p, in every problem over the first n
-- masks. Words behind the reasons stay.
pub record FirstWords (p : Position) (n : ℕ) (masks w w' : List ℕ) : Type 0 where
  pub size : length w' ≡ length w
  pub list : (P : Problem) → P.n ≡ n → P.domain ≡ take n masks → list_in n w' ≡ first_list P (plays_of p)
  pub why : why_in n w' ≡ first_reasons n p.plays
  pub behind : (k : ℕ) → 96 ≤ k → get_or w' k 0 ≡ get_or w k 0
