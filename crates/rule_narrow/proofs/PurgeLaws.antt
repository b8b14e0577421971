-- The narrowing that rule 4 names, from the mask of the pure values, the domain and the side.
use mathlib.Core.Path.{◌≡◌, refl, sym, ap, ap₂, ◌∙◌}
use mathlib.Core.Bool.{Bool, true, false, not, ◌&&◌, not-not}
use mathlib.Core.List.{List}
use Prim.Native.Nat.{ℕ, ◌^◌, ◌<◌}
use native.Mathlib.Omega.{arith}
use lib.Dec.{eqb}
use lib.ListN.{get_or}
use borrow.Author.Tests.{eq-eqb, ne_eqb}
use Rattle.mask.specs.Range.{some, first}
use Rattle.mask.specs.Mask.{bit, mask_of, diff}
use Rattle.mask.proofs.Range.{some-over, some_joint}
use Rattle.mask.proofs.Bits.{bit_of_zero, bit_none, bit-diff}
use Rattle.mask.proofs.Masks.{mask_of_same, mask_of_lt, mask_of_bits, bit-mask_of, empty-some, diff_lt}
use Rattle.mask.proofs.Members.{low_lt, low_in}
use Rattle.game.specs.Problem.{Problem}
use Rattle.game.specs.Lists.{domains}
use Rattle.game.specs.Pure.{lowest, is_pure, pure, purged, is_impure}
use Rattle.theory.proofs.Narrowings.{lowest_mask}

-- The smallest value of a mask alone; of an empty mask none.
pub smallest_none : mask_of 16 (lowest (bit 0)) ≡ 0
unfolding lowest
smallest_none = bit_none 16 _ (mask_of_lt 16 _) λ k l. bit-mask_of 16 (lowest (bit 0)) k l ∙ ap (λ b. b && not (some k (bit 0) (λ b. true))) (bit_of_zero k)

pub smallest_some : (m : ℕ) → m < 2 ^ 16 → ¬ (m ≡ 0) → 2 ^ first 16 (bit m) ≡ mask_of 16 (lowest (bit m))
smallest_some m h z = sym (lowest_mask (bit m) (first 16 (bit m)) (low_lt 16 m h z) (low_in 16 m h z))

-- The smallest of tests that agree below 16.
lowest_eq : (f g : ℕ → Bool) → ((k : ℕ) → k < 16 → f k ≡ g k) → (a : ℕ) → a < 16 → lowest f a ≡ lowest g a
unfolding lowest
lowest_eq f g e a h = ap₂ (λ b s. b && not s) (e a h) (some-over a f g (λ b. true) (λ k l. e k (omega arith)))

-- A mask has a member where it is not zero.
pub some_member : (m : ℕ) → m < 2 ^ 16 → some 16 (bit m) (λ b. true) ≡ not (eqb m 0)
some_member m h = sym (ap not (empty-some 16 m h) ∙ not-not (some 16 (bit m) (λ b. true)))

-- The four cases, for a variable x with the pure values p and the domain d.
module _ (P : Problem) (x : ℕ) (l : List ℕ) (p d : ℕ) (ep : p ≡ pure P x l) (ed : d ≡ get_or l x 0) (small : d < 2 ^ 16) where
  -- What the masks hold, as tests.
  pure-bit : (a : ℕ) → a < 16 → bit p a ≡ is_pure P (domains l) x a
  unfolding pure
  pure-bit a h = ap (λ (m : ℕ). bit m a) ep ∙ bit-mask_of 16 (is_pure P (domains l) x) a h

  domain-bit : (a : ℕ) → bit d a ≡ domains l x a
  unfolding domains
  domain-bit a = ap (λ (m : ℕ). bit m a) ed

  pure_lt : p < 2 ^ 16
  unfolding pure
  pure_lt = rw ep (mask_of_lt 16 _)

  pub impure-bit : (a : ℕ) → a < 16 → bit (diff d p) a ≡ is_impure P (domains l) x a
  unfolding is_impure
  impure-bit a h = bit-diff d p a ∙ ap₂ (λ b c. b && not c) (domain-bit a) (pure-bit a h)

  -- Some value is pure; some value is not.
  any_pure : some 16 (is_pure P (domains l) x) (λ b. true) ≡ not (eqb p 0)
  any_pure = some-over 16 (is_pure P (domains l) x) (bit p) (λ b. true) (λ k h. sym (pure-bit k h)) ∙ some_member p pure_lt

  any_other : some 16 (domains l x) (λ b. not (is_pure P (domains l) x b)) ≡ not (eqb (diff d p) 0)
  unfolding is_impure
  any_other =
      some_joint 16 (domains l x) (λ b. not (is_pure P (domains l) x b))
      ∙ some-over 16 (λ k. domains l x k && not (is_pure P (domains l) x k)) (bit (diff d p)) (λ b. true) (λ k h. sym (impure-bit k h))
      ∙ some_member (diff d p) (diff_lt 16 d p small)

  -- Universal: the others stay, or the smallest of all. Existential: all stay, or the smallest pure one.
  pub others_stay : P.universal x ≡ true → ¬ (diff d p ≡ 0) → diff d p ≡ mask_of 16 (purged P (domains l) x)
  unfolding purged is_impure
  others_stay s z =
      mask_of_bits 16 (diff d p) (diff_lt 16 d p small)
      ∙ mask_of_same 16 _ _ λ a h. impure-bit a h ∙ sym (rw (s, any_other, ne_eqb (diff d p) 0 z) refl)

  pub one_stays : P.universal x ≡ true → diff d p ≡ 0 → mask_of 16 (lowest (bit d)) ≡ mask_of 16 (purged P (domains l) x)
  unfolding purged
  one_stays s z = mask_of_same 16 _ _ λ a h. lowest_eq (bit d) (domains l x) (λ k _. domain-bit k) a h ∙ sym (rw (s, any_other, eq-eqb (diff d p) 0 z) refl)

  pub all_stay : P.universal x ≡ false → p ≡ 0 → d ≡ mask_of 16 (purged P (domains l) x)
  unfolding purged
  all_stay s z = mask_of_bits 16 d small ∙ mask_of_same 16 _ _ λ a h. domain-bit a ∙ sym (rw (s, any_pure, eq-eqb p 0 z) refl)

  pub pure_stays : P.universal x ≡ false → ¬ (p ≡ 0) → mask_of 16 (lowest (bit p)) ≡ mask_of 16 (purged P (domains l) x)
  unfolding purged
  pure_stays s z = mask_of_same 16 _ _ λ a h. lowest_eq (bit p) (is_pure P (domains l) x) pure-bit a h ∙ sym (rw (s, any_pure, ne_eqb p 0 z) refl)
