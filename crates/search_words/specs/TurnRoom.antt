-- The room of a turn: its own 128 words (domains 0..32, reasons 32..96, leaf 96..128), then those of the turn below.
use Rattle.std.specs.Prelude.{cond, ◌&&◌, List, ℕ, ◌+◌, ◌-◌, ◌^◌, ltb, leb, get_or, length, set}
use Rattle.game.specs.Lists.{list_of}
use Rattle.solver_arrays.specs.Words.{put_reason}

-- The words w, of which those from s on and below t are as f says.
unfoldable pub with_run : ℕ → ℕ → (ℕ → ℕ) → List ℕ → List ℕ
with_run s t f w = list_of (length w) (λ k. cond (leb s k && ltb k t) (f k) (get_or w k 0))

-- The words from s on and below t zero; the v words from s on copied to t.
unfoldable pub zeroed : ℕ → ℕ → List ℕ → List ℕ
zeroed s t w = with_run s t (λ k. 0) w

unfoldable pub copied : ℕ → ℕ → ℕ → List ℕ → List ℕ
copied s t v w = with_run t (t + v) (λ k. get_or w (s + (k - t)) 0) w

-- The words w with value a of variable d played: the domain of d narrowed to a, and d its own reason.
unfoldable pub with_play : ℕ → ℕ → List ℕ → List ℕ
with_play d a w = put_reason (set w d (2 ^ a)) d (2 ^ d)

-- The turn below has the domains and reasons of this one, with value a of variable d played.
unfoldable pub handed_down : ℕ → ℕ → List ℕ → List ℕ
handed_down d a w = with_run 128 224 (λ k. get_or (with_play d a w) (k - 128) 0) w

-- The leaf of the turn below moved up to this one.
unfoldable pub leaf_taken : List ℕ → List ℕ
leaf_taken w = zeroed 224 256 (copied 224 96 32 w)
