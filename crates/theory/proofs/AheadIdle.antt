-- Where rule 1 finds no loss, look ahead finds none on the same domains.
use mathlib.Core.Path.{◌≡◌, refl}
use mathlib.Core.Bool.{Bool, true, false, cond, not}
use Prim.Native.Nat.{ℕ, ◌<◌}
use native.Mathlib.Omega.{arith}
use lib.Dec.{T, T_not, not_T, ltb, ltb→lt}
use borrow.Author.Tests.{ne_eqb, lt-ltb}
use Rattle.mask.specs.Range.{some}
use Rattle.mask.proofs.Logic.{holds, true_holds, fails, clash, test, and_in, and_out}
use Rattle.mask.proofs.Range.{some_in, some_out}
use Rattle.game.specs.Problem.{Problem}
use Rattle.game.specs.Game.{Domains}
use Rattle.game.specs.Support.{clashes, alone, empty}
use Rattle.game.specs.Arc.{barred, arc_loss}
use Rattle.game.specs.Forward.{forward_domains, forward_fails, forward_loss}
use Rattle.game.specs.LookAhead.{ahead_loss}

module _ (P : Problem) (D : Domains) where
  open P use {n, universal, compatible, constrained, free}

  -- Losses of rule 1: an empty domain of an existential variable, a barred value of a universal one.
  pub empty_loses : (x : ℕ) → x < n → universal x ≡ false → T (empty P D x) → T (arc_loss P D)
  unfolding arc_loss
  empty_loses x l s t = some_in n (λ x. true) (λ x. cond (universal x) (some 16 (D x) (λ a. some n (constrained x) (barred P D x a))) (empty P D x)) x l tt (rw s t)

  module _ (x a : ℕ) (l : x < n) (s : universal x ≡ true) (h : a < 16) (m : T (D x a)) where
    barred_loses : (y : ℕ) → y < n → T (constrained x y) → T (barred P D x a y) → T (arc_loss P D)
    unfolding arc_loss
    barred_loses y k c t = some_in n (λ x. true) (λ x. cond (universal x) (some 16 (D x) (λ a. some n (constrained x) (barred P D x a))) (empty P D x)) x l tt
        (rw s (some_in 16 (D x) (λ a. some n (constrained x) (barred P D x a)) a h m (some_in n (constrained x) (barred P D x a) y k c t)))

    -- A later variable at which the check of value a loses bars it, or is empty.
    module _ (y : ℕ) (o : x < y) (k : y < n) where
      facing : universal y ≡ true → T (clashes P D x a y) → T (arc_loss P D)
      unfolding barred clashes
      facing u t = test (constrained x y)
          (λ c. barred_loses y k c (rw u t))
          (λ e. let r = some_out 16 (D y) (λ b. not (compatible x a y b)) t in absurd (T_not (compatible x a y r.0) r.3 (free x y e a r.0)))

      -- What the check leaves of a later existential variable: the values that go with a.
      stays : (b : ℕ) → universal y ≡ false → T (D y b) → T (compatible x a y b) → T (forward_domains P D x a y b)
      unfolding forward_domains
      stays b u p g = rw (ne_eqb y x (omega arith), lt-ltb x y o, u) (and_in (compatible x a y b) (D y b) g p)

      alone-left : universal y ≡ false → T (empty P (forward_domains P D x a) y) → T (alone P D x a y)
      unfolding empty alone
      alone-left u t = not_T (some 16 (D y) (λ b. compatible x a y b)) λ q.
          let r = some_out 16 (D y) (λ b. compatible x a y b) q in
          T_not (some 16 (forward_domains P D x a y) (λ b. true)) t (some_in 16 (forward_domains P D x a y) (λ b. true) r.0 r.1 (stays r.0 u r.2 r.3) tt)

      lone : universal y ≡ false → T (alone P D x a y) → T (arc_loss P D)
      unfolding barred empty alone
      lone u t = test (constrained x y)
          (λ c. barred_loses y k c (rw u (and_in (ltb x y) (alone P D x a y) (true_holds (lt-ltb x y o)) t)))
          (λ e. empty_loses y k u (not_T (some 16 (D y) (λ b. true)) λ q.
          let r = some_out 16 (D y) (λ b. true) q in
          T_not (some 16 (D y) (λ b. compatible x a y b)) t (some_in 16 (D y) (λ b. compatible x a y b) r.0 r.1 r.2 (free x y e a r.0))))

      fails_loses : (u : Bool) → universal y ≡ u → T (cond u (clashes P D x a y) (empty P (forward_domains P D x a) y)) → T (arc_loss P D)
      fails_loses true u t = facing u t
      fails_loses false u t = lone u (alone-left u t)

  pub ahead-idle : (x : ℕ) → x < n → arc_loss P D ≡ false → ahead_loss P x D ≡ false
  unfolding ahead_loss forward_loss
  ahead-idle x l e = fails λ t.
      let q = and_out (universal x) (some 16 (D x) (λ a. forward_loss P D x a)) t in
      let r = some_out 16 (D x) (λ a. forward_loss P D x a) q.1 in
      let v = some_out n (ltb x) (forward_fails P D x r.0) r.3 in
      clash e (fails_loses x r.0 l (holds q.0) r.1 r.2 v.0 (ltb→lt x v.0 v.2) v.1 (universal v.0) refl v.3)
