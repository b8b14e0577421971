-- Rule 1's removals in any order: "Dead options are removed until none is left."
use Rattle.std.specs.Prelude.{◌≡◌, true, false, List, ℕ, ◌<◌, T}
use Rattle.game.specs.Problem.{Problem}
use Rattle.game.specs.Lists.{domains, Masks}
use Rattle.game.specs.Arc.{dead}

-- One step of removals, from the list l to the list m: some dead values of existential variables are taken out, and nothing else.
pub record Removal (P : Problem) (l m : List ℕ) : Type 0 where
  pub masks : Masks P.n m
  pub less : (j a : ℕ) → T (domains m j a) → T (domains l j a)
  pub kept : (j a : ℕ) → P.universal j ≡ true → T (domains l j a) → T (domains m j a)
  pub died : (j : ℕ) → j < P.n → P.universal j ≡ false → (a : ℕ) → T (domains l j a) → domains m j a ≡ false → T (dead P (domains l) j a)

-- Steps one after another, any number of them, in any order.
pub data Removals (P : Problem) : List ℕ → List ℕ → Type 0 where
  none : {l : List ℕ} → Removals P l l
  more : {l k m : List ℕ} → Removal P l k → Removals P k m → Removals P l m

-- No value of an existential variable is dead.
abbrev pub NoneDead : Problem → List ℕ → Type 0
NoneDead P l = (j : ℕ) → j < P.n → P.universal j ≡ false → (a : ℕ) → T (domains l j a) → dead P (domains l) j a ≡ false
