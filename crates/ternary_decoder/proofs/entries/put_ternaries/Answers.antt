use Prim.Native.Nat.{ℕ, ◌+◌}
use mathlib.Core.Path.{◌≡◌, refl, sym, ap, subst, ◌∙◌}
use native.Mathlib.Numerals.{add-one}
use native.Mathlib.Omega.{arith}
use Rattle.mask.specs.Mask.{bit}
use Rattle.file_constraints.specs.Ternaries.{ternary_at}
use Rattle.file_constraints.proofs.TernaryLaws.{first_at, behind_ternary}
use Rattle.file_decoder.specs.FileProblem.{ternary_of, record_at}
use Rattle.ternary_decoder.specs.Stated.{TernaryStated}
use Rattle.ternary_decoder.proofs.Ordinary.{turn}
use Rattle.ternary_decoder.proofs.entries.put_ternaries.Goals as goal

pub loop-r-init : goal.loop-r-init
loop-r-init c = (sym (first_at _ _), omega arith, refl, λ fine q t s. s)

pub invariant_of-c : goal.invariant_of-c
invariant_of-c c = record { near = rw c.loop-r.invariant.0 (c.requires.stand.near c.loop-r.r (omega arith)) }

pub put_ternary-requires-clause-more : goal.put_ternary-requires-clause-more
put_ternary-requires-clause-more c = omega (arith, c.requires.stand.few, c.loop-r.invariant.1)

pub put_ternary-requires-clause-scope : goal.put_ternary-requires-clause-scope
put_ternary-requires-clause-scope c =
    let o = c.requires.stand.order c.loop-r.r (omega arith) in
    let few = c.requires.stand.few in
    rw c.loop-r.invariant.0 (omega (arith, o.0, o.1, o.2), omega (arith, o.1, o.2), omega (arith, o.2))

pub loop-r-preserved : goal.loop-r-preserved
unfolding record_at
loop-r-preserved c =
    let i = c.loop-r.invariant in
    let a = c.put_ternary.ensures in
    let few = c.requires.stand.few in (
      rw add-one (behind_ternary _ c.args.q _ _ _ i.0 c.end-place.ensures),
      omega (arith, a.n, i.1),
      a.universal ∙ i.2,
      λ fine q t s.
          rw add-one
          (turn _ fine c.args.m c.args.arrays.now.n _ c.loop-r.place _ _ (omega arith) (omega (arith, c.requires.numbers)) (omega arith)
          (i.0 ∙ ap (λ (p : ℕ). ternary_at c.args.f.now p c.loop-r.r) q) i.1 (ap (λ (w : ℕ). bit w (c.args.arrays.now.n + c.loop-r.r)) i.2 ∙ c.requires.existential _ (omega arith)) (i.3 fine q t s) a),
    )

pub returns : goal.returns
returns c = λ fine q t s. let e : c.loop-r.r ≡ c.args.count = omega arith in subst (λ (k : ℕ). TernaryStated (ternary_of c.args.f.now fine) c.args.m k c.loop-r.arrays) e (c.loop-r.invariant.3 fine q t s)
