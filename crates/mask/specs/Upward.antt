-- One call of `next` on the members of a mask, which the iterator of `members_of` makes.
use Rattle.std.specs.Prelude.{◌≡◌, ℕ, ◌<◌, ◌^◌, MatchOption, Option}
use Rattle.mask.specs.Range.{first}
use Rattle.mask.specs.Mask.{bit, rest}

-- What a call took from a mask m of w places.
pub record Took (w m j v : ℕ) : Type 0 where
  pub fits : m < 2 ^ w
  pub some : ¬ (m ≡ 0)
  pub low : j ≡ first w (bit m)
  pub left : v ≡ rest m

-- A call at m gave r and left v: nothing, where m is empty, which stays so; else its lowest member, and the rest is left.
abbrev pub TakesLowest : ℕ → ℕ → Option ℕ → ℕ → Type 0
TakesLowest w m r v = MatchOption r ((m ≡ 0) × (v ≡ 0)) (λ j. Took w m j v)
