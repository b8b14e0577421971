use Rattle.formula_index.proofs.MarkedLaws.{Lined}
use Rattle.formula_index.proofs.prefix.read_prefix.Given as goal

abbrev pub invariant-loop : goal.invariant-loop
invariant-loop l = Lined l.t l.most l.p l.initial.sides l.sides l.q l.counter
