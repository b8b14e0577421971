-- Two problems whose games are the same: they have the same variables, sides and domains, and within the domains the same values of two
-- variables go together. What lies outside the domains, and which two variables a constraint joins, does not count.
use Rattle.std.specs.Prelude.{◌≡◌, ℕ, ◌<◌, T}
use Rattle.game.specs.Problem.{Problem}
use Rattle.game.specs.Lists.{domains}

pub record SameGame (P Q : Problem) : Type 0 where
  pub size : P.n ≡ Q.n
  pub side : (i : ℕ) → i < P.n → P.universal i ≡ Q.universal i
  pub domain : P.domain ≡ Q.domain
  pub compatible : (i a j b : ℕ) → i < j → j < P.n → T (domains P.domain i a) → T (domains P.domain j b) → P.compatible i a j b ≡ Q.compatible i a j b
