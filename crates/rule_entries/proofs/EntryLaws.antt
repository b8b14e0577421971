-- A call over an accepted file: what it makes of the arrays, in every problem that these state, it makes of the file.
use Prim.Native.Nat.{ℕ}
use mathlib.Core.Path.{◌≡◌, sym, ◌∙◌}
use mathlib.Core.List.{List}
use Rattle.refusal.specs.declared.reason.Fault.{Fault}
use Rattle.refusal.specs.Chain.{Verdict, Fine}
use Rattle.game.specs.Problem.{Problem}
use Rattle.solver_arrays.specs.Arrays.{Poses}
use Rattle.solver_arrays.specs.declared.arrays.Arrays.{Arrays}
use Rattle.ternary_decoder.specs.Decoded.{DecodesOrdinary}
use Rattle.file_decoder.specs.Read.{read_ordinary}
use Rattle.file_decoder.proofs.ReadLaws.{read_fine}

pub read_given : {f : List ℕ} {A B : Arrays} {d : Verdict} (D : DecodesOrdinary f A d B) → d ≡ Fine
    → {X : Type 0} {x : X} (refusal : Fault → X) (reply : Problem → X) → ((P : Problem) → Poses P B → x ≡ reply P) → x ≡ read_ordinary f refusal reply
read_given D was refusal reply h = let g = D.given was in h _ g.poses ∙ sym (read_fine _ refusal _ g.fine)
