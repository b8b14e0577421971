-- The first line, and how many booleans it says.
use mathlib.Core.Path.{◌≡◌}
use mathlib.Core.Bool.{Bool, true, false, cond}
use mathlib.Core.List.{[], ◌∷◌}
use Prim.Native.Nat.{ℕ, suc, ◌+◌}
use native.Mathlib.Nat.{add-zero}
use native.Mathlib.Numerals.{add-one}
use Rattle.std.specs.Int.{from_bool}
use Rattle.buffer.specs.Decimal.{decimal}
use Rattle.buffer.specs.declared.Text.{Text}
use Rattle.buffer.specs.Put.{Put}
use Rattle.buffer.proofs.PutLaws.{put_more, put_last}
use Rattle.formula.specs.Text.{problem_label, blank, header_text}
use Rattle.solver_arrays.specs.declared.arrays.Arrays.{Arrays}
use Rattle.formula_text.specs.Body.{closes_in, all_in, booleans_in}

more : (c : Bool) (b : ℕ) → b + from_bool c ≡ cond c (suc b) b
more true b = add-one b
more false b = add-zero b

pub booleans_by : {c : Bool} {b k : ℕ} (A : Arrays) → c ≡ closes_in A → b ≡ all_in A → k ≡ from_bool c → b + k ≡ booleans_in A
unfolding booleans_in
booleans_by {c} {b} A f e z = rw (← f, ← e, z) (more c b)

pub header_put :
    {s a b c d u : Text} (v n : ℕ) → Put s problem_label a → Put a (decimal v) b → Put b blank c → Put c (decimal n) d → Put d (10 ∷ []) u
    → Put s (header_text v n) u
unfolding header_text
header_put v n p q r e f = put_more _ p (put_more _ q (put_more _ r (put_more _ e (put_last f))))
