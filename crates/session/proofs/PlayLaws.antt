-- Plays, take-backs, locks and unlocks: what their tests say, and the same over a file's domains and a problem's.
use mathlib.Core.Path.{◌≡◌, sym, ap, ◌∙◌}
use mathlib.Core.Bool.{Bool}
use mathlib.Core.List.{List}
use Prim.Native.Nat.{ℕ, ◌<◌}
use lib.Dec.{T, ltb, leb}
use lib.ListN.{get_or}
use borrow.Author.Tests.{le-ltb}
use Rattle.mask.specs.Mask.{bit}
use Rattle.mask.proofs.Logic.{true_holds, clash, by_lt}
use Rattle.mask.proofs.Bits.{bit_high}
use Rattle.refusal.specs.declared.reason.Reason.TheVariants.{Value, Full, Misfit, Depth}
use Rattle.refusal.specs.Chain.{Test, Fine, ◌then◌, need}
use Rattle.refusal.specs.Replied.{passed}
use Rattle.refusal.proofs.Chain.{need_fine}
use Rattle.game.specs.Problem.{Problem}
use Rattle.position.specs.declared.Position.{Position}
use Rattle.position.specs.Position.{pushed, popped, held, fits_in, fit_test}
use Rattle.position.proofs.Fitting.{fits_same}
use Rattle.session.specs.Plays.{play_test, take_back_test, unlock_test, play_in, take_back_in, lock_in, unlock_in}

-- A value in a mask of 16 bits is below 16.
pub value_small : (m a : ℕ) → m < 65536 → T (bit m a) → a < 16
value_small m a b t = by_lt a 16 (λ k. k) (λ k. absurd (clash (bit_high 16 m a b k) t))

-- What a fine test says.
pub fit_fine : (n : ℕ) (masks : List ℕ) (p : Position) → fit_test n masks p ≡ Fine → T (fits_in p n masks)
unfolding fit_test
fit_fine n masks p e = true_holds (need_fine (fits_in p n masks) Misfit e)

-- The list D holds the domains of P, of n variables.
pub record DomainsOf (P : Problem) (n : ℕ) (D : List ℕ) : Type 0 where
  pub size : P.n ≡ n
  pub domain : (i : ℕ) → i < n → get_or P.domain i 0 ≡ get_or D i 0

module _ (P : Problem) (n : ℕ) (D : List ℕ) (h : DomainsOf P n D) (p : Position) where
  -- The tests over D are those over the problem's own domains.
  pub fit_same : fit_test n D p ≡ fit_test P.n P.domain p
  unfolding fit_test
  fit_same = ap (λ (b : Bool). need b Misfit) (fits_same p n D P.domain (λ i l. sym (h.domain i l)) ∙ ap (λ (k : ℕ). fits_in p k P.domain) (sym h.size))

  -- Of a position that is not full the next domain is the same; of one that is the value is not looked at.
  next_same : (a : ℕ) → (need (ltb p.plays n) Full then need (bit (get_or D p.plays 0) a) Value)
      ≡ (need (ltb p.plays P.n) Full then need (bit (get_or P.domain p.plays 0) a) Value)
  unfolding need ◌then◌
  next_same a =
      by_lt p.plays n
      (λ k. rw (h.size, h.domain p.plays k))
      (λ k. rw (h.size, le-ltb p.plays n k))

  play_test_same : (a : ℕ) → play_test n D p a ≡ play_test P.n P.domain p a
  unfolding play_test
  play_test_same a = rw (fit_same, next_same a)

  take_back_test_same : take_back_test n D p ≡ take_back_test P.n P.domain p
  unfolding take_back_test
  take_back_test_same = rw fit_same

  pub play_same : (a : ℕ) → play_in n D p a ≡ play_in P.n P.domain p a
  unfolding play_in
  play_same a = ap (λ (t : Test). passed t (pushed p a)) (play_test_same a)

  pub take_back_same : take_back_in n D p ≡ take_back_in P.n P.domain p
  unfolding take_back_in
  take_back_same = ap (λ (t : Test). passed t (popped p)) take_back_test_same

  pub lock_same : lock_in n D p ≡ lock_in P.n P.domain p
  unfolding lock_in
  lock_same = ap (λ (t : Test). passed t (held p p.plays)) fit_same

  pub unlock_same : (k : ℕ) → unlock_in n D p k ≡ unlock_in P.n P.domain p k
  unfolding unlock_in unlock_test
  unlock_same k = ap (λ (t : Test). passed (t then need (leb k p.depth) Depth) (held p k)) fit_same
