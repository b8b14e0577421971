-- Tests in the order in which they decide: `need b e` is fine where b holds and else refused with e; `s then t` is the first refusal of
-- the two. A test of a file has a reason and a place, a test of a call a reason.
use Rattle.std.specs.Prelude.{ℕ, Bool, true, false, Result, Ok, Err}
use Rattle.refusal.specs.declared.reason.Reason.{Reason}
use Rattle.refusal.specs.declared.reason.Fault.{Fault}
use Rattle.refusal.specs.Reason.{◌at◌}

abbrev pub Verdict : Type 0
Verdict = Result (Unit {0}) Fault

abbrev pub Test : Type 0
Test = Result (Unit {0}) Reason

abbrev pub Fine : {E : Type 0} → Result (Unit {0}) E
Fine = Ok tt

infixr 20 ◌then◌
unfoldable pub ◌then◌ : {E : Type 0} → Result (Unit {0}) E → Result (Unit {0}) E → Result (Unit {0}) E
(Ok u) then t = t
(Err e) then t = Err e

unfoldable pub need : {E : Type 0} → Bool → E → Result (Unit {0}) E
need true e = Ok tt
need false e = Err e

-- A test that is made only where b holds.
unfoldable pub only : {E : Type 0} → Bool → Result (Unit {0}) E → Result (Unit {0}) E
only true t = t
only false t = Ok tt

-- A test of numbers that stand in a file: its refusal gets the place.
unfoldable pub placed : ℕ → Test → Verdict
placed p (Ok u) = Ok u
placed p (Err e) = Err (e at p)
