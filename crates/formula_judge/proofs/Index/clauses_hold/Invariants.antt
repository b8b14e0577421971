use Prim.Native.Nat.{◌+◌, ◌≤◌}
use Rattle.formula_judge.proofs.WalkLaws.{Walk}
use Rattle.formula_judge.proofs.Index.clauses_hold.Given as goal

abbrev pub invariant-loop-k : goal.invariant-loop-k
invariant-loop-k l =
    (l.x ≤ 127008) × Walk l.self.text.now l.self.start.now l.self.next.now l.self.head.now (l.self.count + 1) l.v l.values l.x

abbrev pub decreases-loop-k : goal.decreases-loop-k
decreases-loop-k l = l.x
