-- Rule sets with and without rule 6.
use Rattle.std.specs.Prelude.{◌≡◌, ℕ, ◌<◌}
use Rattle.game.specs.Rule.{uses}

-- Two sets that differ in rule 6 at most.
abbrev pub Others : ℕ → ℕ → Type 0
Others S U = (k : ℕ) → k < 8 → ¬ (k ≡ 6) → uses S k ≡ uses U k
