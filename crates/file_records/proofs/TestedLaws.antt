-- What a test says that hands out what it has tested, behind another test.
use mathlib.Core.Path.{◌≡◌, refl}
use Rattle.std.specs.Prelude.{Result, Ok, Err, IfOk}
use Rattle.std.specs.Result.{result_and}
use Rattle.refusal.specs.declared.reason.Fault.{Fault}
use Rattle.refusal.specs.Chain.{Verdict, ◌then◌}
use Rattle.file_records.specs.Tested.{tested}

pub and_tested : {A : Type 0} (s : Verdict) (t : Result A Fault) → tested (result_and s t) ≡ (s then tested t)
unfolding ◌then◌
and_tested (Ok u) t = refl
and_tested (Err e) t = refl

pub and_shows : {A : Type 0} (s : Verdict) (t : Result A Fault) (P : A → Type 0) → IfOk t P → IfOk (result_and s t) P
and_shows (Ok u) t P h = h
and_shows (Err e) t P h = tt
