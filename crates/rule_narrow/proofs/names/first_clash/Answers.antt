use Prim.Native.Nat.{ℕ, ◌<◌, ◌+◌, ◌^◌}
use mathlib.Core.Path.{◌≡◌, sym, ap, subst, ◌∙◌}
use native.Mathlib.Omega.{arith}
use lib.ListN.{get_or}
use Rattle.mask.specs.Range.{first}
use Rattle.mask.specs.Mask.{bit, diff}
use Rattle.mask.proofs.Logic.{by_eq}
use Rattle.mask.proofs.Range.{first_most}
use Rattle.rule_narrow.proofs.NameLaws.{GoesBelow, clashing_in, first_variable, first_value, no_variable, no_value}
use Rattle.rule_narrow.proofs.names.first_clash.Goals as goal
use Rattle.rule_narrow.proofs.names.first_clash.Goals.{Joined-j-x, then-j-x+else-clashing-ne0, else-j-x}

-- A value's number fits in a byte.
below : (m : ℕ) → first 16 (bit m) < 256
below m = omega (arith, first_most 16 (bit m))

pub loop-j-init : goal.loop-j-init
loop-j-init c = λ i h d. absurd (omega arith)

pub overflow_cast-result-then-clashing-ne0 : goal.overflow_cast-result-then-clashing-ne0
overflow_cast-result-then-clashing-ne0 c = let r : c.lowest.result < 256 = subst (λ (r : ℕ). r < 256) (sym c.lowest.ensures) (below _) in omega (arith, r)

pub returns-then-clashing-ne0 : goal.returns-then-clashing-ne0
returns-then-clashing-ne0 c = λ P S.
    let a = c.args in
    let small : (k : ℕ) → get_or c.args.w.now k 0 < 2 ^ 16 = λ k. omega (arith, c.type_inv.w k) in
    let e : c.difference-clashing.result ≡ clashing_in a.arrays.now a.x a.w.now a.a c.loop-j.j = c.difference-clashing.ensures ∙ ap (diff (get_or a.w.now c.loop-j.j 0)) c.row.ensures in
    let j = first_variable P _ _ S _ c.requires.0 _ small _ c.requires.1 _ c.loop-j-test.true c.if-j-x.true (λ z. c.if-clashing-ne0.true (e ∙ z)) c.loop-j.invariant in
    (j, c.lowest.ensures ∙ first_value P _ _ S _ c.requires.0 _ small _ c.requires.1 _ _ c.loop-j-test.true e j)

-- Variable j has passed.
went : (c : Joined-j-x) → GoesBelow c.args.arrays.now c.args.x c.args.w.now c.args.a (c.loop-j.j + 1)
went c = λ i h d.
    by_eq i c.loop-j.j
    (λ e. elim c.if-j-x.branch [
      | then-j-x+else-clashing-ne0 w ↦
          ap (clashing_in c.args.arrays.now c.args.x c.args.w.now c.args.a) e
          ∙ sym (w.difference-clashing.ensures ∙ ap (diff (get_or c.args.w.now c.loop-j.j 0)) w.row.ensures) ∙ w.if-clashing-ne0.false
      | else-j-x w ↦ absurd (d (e ∙ w.if-j-x.false))
    ])
    (λ e. c.loop-j.invariant i (omega arith) d)

pub loop-j-preserved : goal.loop-j-preserved
loop-j-preserved c = went (goal.at.loop-j-preserved c).Joined-j-x

pub returns : goal.returns
returns c = λ P S.
    let small : (k : ℕ) → get_or c.args.w.now k 0 < 2 ^ 16 = λ k. omega (arith, c.type_inv.w k) in
    let v = no_variable P _ _ S _ c.requires.0 _ small _ c.requires.1 (λ i h d. c.loop-j.invariant i (omega arith) d) in
    (v, no_value P _ _ S _ c.requires.0 _ small _ c.requires.1 v)
