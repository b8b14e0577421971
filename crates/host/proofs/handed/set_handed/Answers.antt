use mathlib.Core.Path.{◌≡◌, refl}
use mathlib.Core.Bool.{Bool, true, false, not, cond}
use Prim.Native.Nat.{ℕ, ◌<◌}
use native.Mathlib.Omega.{arith}
use lib.Dec.{eqb, ltb}
use borrow.Author.Tests.{lt-ltb, le-ltb}
use Rattle.std.specs.Prelude.{Result, Ok, Err, OkIff, None, Some}
use Rattle.std.specs.Bool.{then_some}
use Rattle.std.specs.Result.{result_unwrap_or}
use Rattle.host.specs.Handed.{byte_handed}
use Rattle.host.proofs.handed.set_handed.Goals as goal

-- A number that no byte holds gives 255.
byte : {E : Type 0} (r : Result ℕ E) (rules : ℕ) → OkIff r (rules < 256) rules → result_unwrap_or r 255 ≡ cond (ltb rules 256) rules 255
byte (Ok k) rules o = rw (lt-ltb rules 256 o.0) o.1
byte (Err e) rules o = rw (le-ltb rules 256 (omega (arith, o))) refl

handed_is : {E : Type 0} (given rules : ℕ) (r : Result ℕ E) → OkIff r (rules < 256) rules → then_some (not (eqb given 0)) (result_unwrap_or r 255) ≡ byte_handed given rules
unfolding byte_handed
handed_is given rules r o = rw (byte r rules o) (by (eqb given 0))
  where
    by : (b : Bool) → then_some (not b) (cond (ltb rules 256) rules 255) ≡ cond b None (Some (cond (ltb rules 256) rules 255))
    by true = refl
    by false = refl

pub returns : goal.returns
returns c = rw (c.then_some.ensures, c.unwrap_or.ensures) (handed_is _ _ _ c.try_from.ensures)
