-- Rule 1's removals with reasons, in any order.
use Rattle.std.specs.Prelude.{◌≡◌, false, ℕ, ◌<◌, T, length}
use Rattle.mask.specs.Mask.{bit}
use Rattle.game.specs.Problem.{Problem}
use Rattle.game.specs.Lists.{domains, Masks}
use Rattle.game.specs.Reasons.{Sheet, kills, cause}

module _ (P : Problem) where
  open P use {n, universal, constrained}

  -- A list of n masks with n reasons.
  pub record Formed (s : Sheet) : Type 0 where
    pub masks : Masks n s.list
    pub sized : length s.why ≡ n

  -- One valid revision: some values of an existential x that die because of k are removed, as many as one likes, and the reason of x takes
  -- their cause in.
  pub record Revision (s t : Sheet) : Type 0 where
    pub x : ℕ
    pub k : ℕ
    pub x_in : x < n
    pub k_in : k < n
    pub existential : universal x ≡ false
    pub near : T (constrained x k)
    pub formed : Formed t
    pub less : (j a : ℕ) → T (domains t.list j a) → T (domains s.list j a)
    pub dies : (j a : ℕ) → T (domains s.list j a) → domains t.list j a ≡ false → (j ≡ x) × T (kills P (domains s.list) x a k)
    pub more : (j l : ℕ) → T (domains s.why j l) → T (domains t.why j l)
    pub blamed : (l : ℕ) → T (bit (cause P s.why x k) l) → T (domains t.why x l)

  -- Any number of them, in any order.
  pub data Revisions (s : Sheet) : Sheet → Type 0 where
    none : Revisions s s
    one : {t u : Sheet} → Revisions s t → Revision t u → Revisions s u
