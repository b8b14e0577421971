-- What the tests make of a call: v is the test as the code makes it, t as the problem's.
use Prim.Native.Nat.{ℕ}
use mathlib.Core.Path.{◌≡◌, sym, ap, ◌∙◌}
use mathlib.Core.List.{List}
use Rattle.std.specs.Prelude.{Result, Ok, Err}
use Rattle.refusal.specs.declared.reason.Reason.{Reason}
use Rattle.refusal.specs.Chain.{Test}
use Rattle.refusal.specs.Told.{replied, reason_told}
use Rattle.refusal.specs.Replied.{passed, replied_for, list_for}

module _ {v : Test} (t : Test) where
  pub reply_refused : {e : Reason} (values : List ℕ) → v ≡ t → v ≡ Err e → reason_told e ≡ replied_for t values
  unfolding replied_for
  reply_refused values s q = sym (ap (λ (w : Test). replied_for w values) (sym s ∙ q))

  pub reply_told : {u : Unit {0}} {r : List ℕ} (values : List ℕ) → v ≡ t → v ≡ Ok u → r ≡ values → replied r ≡ replied_for t values
  unfolding replied_for
  reply_told values s q e = ap replied e ∙ sym (ap (λ (w : Test). replied_for w values) (sym s ∙ q))

module _ {E : Type 0} {v : Result (Unit {0}) E} (t : Result (Unit {0}) E) where
  pub list_refused : {e : E} (new old : List ℕ) → v ≡ t → v ≡ Err e → old ≡ list_for t new old
  unfolding list_for
  list_refused new old s q = sym (ap (λ (w : Result (Unit {0}) E). list_for w new old) (sym s ∙ q))

  pub list_left : {u : Unit {0}} {r : List ℕ} (new old : List ℕ) → v ≡ t → v ≡ Ok u → r ≡ new → r ≡ list_for t new old
  unfolding list_for
  list_left new old s q e = e ∙ sym (ap (λ (w : Result (Unit {0}) E). list_for w new old) (sym s ∙ q))

  -- A reply behind its tests.
  pub passed_stops : {A : Type 0} {e : E} (x : A) → v ≡ t → v ≡ Err e → Err e ≡ passed t x
  unfolding passed
  passed_stops x s q = sym (ap (λ (w : Result (Unit {0}) E). passed w x) (sym s ∙ q))

  pub passed_goes : {A : Type 0} {u : Unit {0}} {r : A} (x : A) → v ≡ t → v ≡ Ok u → r ≡ x → Ok r ≡ passed t x
  unfolding passed
  passed_goes x s q e = ap Ok e ∙ sym (ap (λ (w : Result (Unit {0}) E). passed w x) (sym s ∙ q))
