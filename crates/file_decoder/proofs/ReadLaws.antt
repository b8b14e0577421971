-- A file read first.
use Prim.Native.Nat.{ℕ}
use mathlib.Core.Path.{◌≡◌, refl, path_j}
use mathlib.Core.List.{List}
use Rattle.std.specs.Prelude.{Err}
use Rattle.refusal.specs.declared.reason.Fault.{Fault}
use Rattle.refusal.specs.Chain.{Verdict, Fine}
use Rattle.file_reader.specs.Reading.{verdict_of}
use Rattle.file_decoder.specs.Read.{read_as, read_by}

module _ {A : Type 0} (f : List ℕ) (refusal : Fault → A) (reply : verdict_of f ≡ Fine → A) where
  read_as_lem : (v : Verdict) (e : verdict_of f ≡ v) → read_by f refusal reply ≡ read_as f refusal reply v e
  unfolding read_by
  read_as_lem v e = path_j (λ (w : Verdict) (q : verdict_of f ≡ w). read_as f refusal reply (verdict_of f) refl ≡ read_as f refusal reply w q) refl e

  pub read_refused : (e : Fault) → verdict_of f ≡ Err e → read_by f refusal reply ≡ refusal e
  unfolding read_as
  read_refused e q = read_as_lem (Err e) q

  pub read_fine : (fine : verdict_of f ≡ Fine) → read_by f refusal reply ≡ reply fine
  unfolding read_as
  read_fine fine = read_as_lem Fine fine
