use mathlib.Core.Path.{◌≡◌, refl, sym, ap, ◌∙◌}
use Prim.Native.Nat.{ℕ, ◌<◌}
use mathlib.Core.List.{List}
use lib.ListN.{get_or}
use lib.Seq.{get_or-take}
use native.Mathlib.Omega.{arith}
use borrow.Author.Rules.{rules}
use Rattle.solver_arrays.specs.declared.arrays.Arrays.{Arrays}
use Rattle.std.specs.Prelude.{Err}
use Rattle.refusal.specs.declared.reason.Fault.{Fault}
use Rattle.file_reader.specs.Reading.{n_of, domains_for, domains_of, verdict_of}
use Rattle.file_reader.proofs.Accepted.{accepted, domains_is}
use Rattle.ternary_decoder.specs.Decoded.{OrdinaryGiven}
use Rattle.file_decoder.proofs.FileLaws.{problem_domains}
use Rattle.bench.proofs.rules_alone.bench_decode.Goals as goal

-- The first domain of a refused file, and of an accepted one.
first-refused : (f : List ℕ) (e : Fault) → verdict_of f ≡ Err e → ◌≡◌ {A = ℕ} 0 (get_or (domains_of f) 0 0)
unfolding domains_for
first-refused f e v = sym (ap (λ (l : List ℕ). get_or l 0 0) (domains_is f (Err e) v))

first-given : (f : List ℕ) (A : Arrays) → ((k : ℕ) → get_or f k 0 < 256) → OrdinaryGiven f A
    → get_or A.domains 0 0 ≡ get_or (domains_of f) 0 0
first-given f A bytes g =
    let a = accepted f g.fine in
    let some : 0 < n_of f = omega arith in
    sym (get_or-take A.own A.domains 0 0 (omega (arith, g.size)))
    ∙ ap (λ (l : List ℕ). get_or l 0 0) (sym g.domain ∙ problem_domains f g.fine bytes)
    ∙ get_or-take (n_of f) (domains_of f) 0 0 some

pub returns-in-Ok : goal.returns-in-Ok
returns-in-Ok c = (search rules) ∙ first-given _ _ (λ k. omega (arith, c.type_inv.f k)) (c.decode_ordinary.ensures.given c.in-Ok.is)

pub returns-in-Err : goal.returns-in-Err
returns-in-Err c = first-refused _ _ (c.decode_ordinary.ensures.refused _ c.in-Err.is)
