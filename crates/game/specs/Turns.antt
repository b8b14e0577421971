-- The turns that a search may come to, one below another.
use Rattle.std.specs.Prelude.{◌≡◌, false, List, [], ◌∷◌, ◌++◌, ℕ, ◌<◌, T, length}
use Rattle.game.specs.Problem.{Problem}
use Rattle.game.specs.Lists.{domains}
use Rattle.game.specs.Turn.{first_list, next_list, reached}
use Rattle.game.specs.Reasons.{first_reasons, next_reasons, explained}
use Rattle.game.specs.Search.{Ending, search}

module _ (P : Problem) where
  open P use {n}

  -- The turns of a search under S from the plays p₀, after the plays p with those from c on not yet checked, with the list l and the reasons R:
  -- "A turn of a search starts from the list of the turn above with the new play narrowed, the first turn from the position."
  -- Below a turn without a loss there is one for each value of its list (of which the search skips some).
  pub data TurnOf (S : ℕ) (p₀ : List ℕ) : ℕ → List ℕ → List ℕ → List ℕ → Type 0 where
    first : TurnOf S p₀ 0 p₀ (first_list P p₀) (first_reasons n (length p₀))
    below : {c : ℕ} {p l R : List ℕ} (a : ℕ) → TurnOf S p₀ c p l R → length p < n → (reached P S c p l).loss ≡ false → T (domains (reached P S c p l).list (length p) a)
        → TurnOf S p₀ (length p) (p ++ (a ∷ [])) (next_list P (reached P S c p l).list (length p) a) (next_reasons (explained P S c p l R).why (length p))

  -- The answer of the turn below a turn whose rules reached the list e and the reasons R, where value a is played.
  abbrev pub turn_below : ℕ → ℕ → List ℕ → List ℕ → List ℕ → ℕ → Ending
  turn_below S k p e R a = search P S (length p) k (p ++ (a ∷ [])) (next_list P e (length p) a) (next_reasons R (length p))
