use Rattle.rule_narrow.proofs.NameLaws.{GoesBelow}
use Rattle.rule_narrow.proofs.names.first_clash.Given as goal

abbrev pub invariant-loop-j : goal.invariant-loop-j
invariant-loop-j l = GoesBelow l.arrays l.x l.w l.a l.j
