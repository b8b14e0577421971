use Prim.Native.Nat.{ℕ, ◌<◌}
use mathlib.Core.Path.{◌≡◌, sym}
use mathlib.Core.Bool.{Bool, true, false, not}
use mathlib.Core.List.{List}
use native.Mathlib.Omega.{arith}
use borrow.Author.Rules.{rules}
use lib.Dec.{eqb}
use lib.ListN.{length, get_or}
use Rattle.std.specs.Bool.{MatchBool}
use Rattle.std.specs.List.{AllWithin, HoldsAt}
use Rattle.std.proofs.lemmas.Iterator.{YieldsList-from_slice, cases_from_all}
use Rattle.mask.specs.Range.{each}
use Rattle.mask.proofs.Logic.{holds, fails, clash, true_holds}
use Rattle.mask.proofs.Range.{each_in, each_out}
use Rattle.file_writer.specs.Tests.{domains_fit}
use Rattle.file_writer.proofs.tests.domains_fit.Goals as goal

abbrev full : ℕ → Bool
full d = not (eqb d 0)

by_place : (xs : List ℕ) (r : Bool)
    → MatchBool r (AllWithin (λ d. true ≡ full d) xs 0 (length xs)) ((k : ℕ) × (k < length xs) × HoldsAt (λ d. false ≡ full d) xs k)
    → r ≡ each (length xs) (λ i. true) (λ i. full (get_or xs i 0))
by_place xs true h = sym (holds (each_in (length xs) (λ i. true) (λ i. full (get_or xs i 0)) (λ a l t. true_holds (sym (h a 0 (omega arith) l)))))
by_place xs false h = sym (fails (λ t. clash (sym (h.2 0)) (each_out (length xs) (λ i. true) (λ i. full (get_or xs i 0)) t h.0 h.1 tt)))

pub returns : goal.returns
unfolding domains_fit
returns c =
    by_place c.args.domains.now c.all.result
    (cases_from_all _ _ c.all.result (λ d. true ≡ full d) (λ d. false ≡ full d) c.all.ensures.ran (YieldsList-from_slice c.args.domains.now cc)
    (λ x q k. search rules) (λ x q k. search rules))
