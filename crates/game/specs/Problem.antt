-- The problem that an accepted file states. Everything above is generic over it; a file is an instance.
use Rattle.std.specs.Prelude.{◌≡◌, Bool, false, List, ℕ, ◌<◌, get_or, length, T}

-- n variables in order of play, with their domains as masks ("bit k stands for option k. Not zero"); which of them are universal ("a
-- choice of the day, universal"); which values of two variables are compatible, the same either way round; which two variables a
-- constraint joins, never one with itself. Where none does, all values are compatible ("a pair without a table is free").
pub record Problem : Type 0 where
  pub n : ℕ
  pub domain : List ℕ
  pub sized : length domain ≡ n
  pub bounded : (i : ℕ) → get_or domain i 0 < 65536
  pub nonempty : (i : ℕ) → i < n → ¬ (get_or domain i 0 ≡ 0)
  pub universal : ℕ → Bool
  pub compatible : ℕ → ℕ → ℕ → ℕ → Bool
  pub symmetric : (i a j b : ℕ) → compatible i a j b ≡ compatible j b i a
  pub constrained : ℕ → ℕ → Bool
  pub apart : (i j : ℕ) → T (constrained i j) → ¬ (i ≡ j)
  pub free : (i j : ℕ) → constrained i j ≡ false → (a b : ℕ) → T (compatible i a j b)
