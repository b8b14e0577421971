-- Whether a file is won: accepted, and the existential player wins the game of the problem that it states, with its three-way constraints.
use Rattle.std.specs.Prelude.{Bool, false, List, [], ℕ}
use Rattle.game.specs.Ternary.{ternary_verdict}
use Rattle.file_decoder.specs.Read.{read_ternary}

unfoldable pub file_won : List ℕ → Bool
file_won f = read_ternary f (λ e. false) (λ J. ternary_verdict J [])
