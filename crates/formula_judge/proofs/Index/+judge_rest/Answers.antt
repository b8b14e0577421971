use Prim.Native.Nat.{ℕ, ◌+◌, ◌-◌}
use mathlib.Core.Path.{◌∙◌}
use mathlib.Core.Bool.{false}
use native.Mathlib.Omega.{arith}
use Rattle.formula_judge.proofs.RestLaws.{Tried, tried_as, tried_cut, tried_rest, rest_none, rest-first, rest_second}
use Rattle.formula_judge.proofs.Index.+judge_rest.Goals as goal
use Rattle.formula_judge.proofs.Index.+judge_rest.Goals.{Joined-decided, then-decided, else-decided}

-- The two ways behind the first value meet.
first-tried : (t : ℕ) (c : Joined-decided t) →
    let i = c.args.self.now in
    Tried i.text.now i.start.now i.next.now i.head.now i.sides.now i.count (c.args.left - 1) (i.count - c.args.left + 1) false c.args.values.now c.if-decided.values c.if-decided.no
first-tried t c =
    let d = c.decided.ensures in
    let m = c.args.self.now.small in
    elim c.if-decided.branch [
      | then-decided w ↦ tried_as _ _ _ _ _ _ (tried_rest _ _ _ _ _ _ _ _ _ _ _ c.told-values d.values_after (omega arith) m _ w.if-decided.true d.by_index _ _ w.judge_rest-no.ensures) w.values-is w.no-is
      | else-decided w ↦ tried_as _ _ _ _ _ _ (tried_cut _ _ _ _ _ _ _ _ _ _ _ c.told-values d.values_after (omega arith) m _ w.if-decided.false d.by_index) w.values-is (w.no-is ∙ w.if-decided.false)
    ]

pub returns-then-left-eq0 : goal.returns-then-left-eq0
returns-then-left-eq0 t c = rest_none _ _ _ _ _ _ _ _ c.told-values c.if-left-eq0.true

pub returns-then-no-all : goal.returns-then-no-all
returns-then-no-all t c =
    let first = first-tried t (goal.at.returns-then-no-all t c).Joined-decided in
    rest-first _ _ _ _ _ _ _ _ _ _ _ _ _ (omega arith) (omega arith) (omega arith) c.args.self.now.small c.is_universal-all.ensures first c.if-no-all.true

pub returns-then-decided-2 : goal.returns-then-decided-2
returns-then-decided-2 t c =
    let first = first-tried t (goal.at.returns-then-decided-2 t c).Joined-decided in
    let d = c.decided-2.ensures in
    rest_second _ _ _ _ _ _ _ _ _ _ _ _ _ (omega arith) (omega arith) (omega arith) c.args.self.now.small c.is_universal-all.ensures first c.if-no-all.false _ _
    (tried_rest _ _ _ _ _ _ _ _ _ _ _ first.size d.values_after (omega arith) c.args.self.now.small _ c.if-decided-2.true d.by_index _ _ c.judge_rest.ensures)

pub returns-else-decided-2 : goal.returns-else-decided-2
returns-else-decided-2 t c =
    let first = first-tried t (goal.at.returns-else-decided-2 t c).Joined-decided in
    let d = c.decided-2.ensures in
    rw c.if-decided-2.false
    (rest_second _ _ _ _ _ _ _ _ _ _ _ _ _ (omega arith) (omega arith) (omega arith) c.args.self.now.small c.is_universal-all.ensures first c.if-no-all.false _ _
    (tried_cut _ _ _ _ _ _ _ _ _ _ _ first.size d.values_after (omega arith) c.args.self.now.small _ c.if-decided-2.false d.by_index))
