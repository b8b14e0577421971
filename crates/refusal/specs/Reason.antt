-- The reasons of a refusal with the numbers of documents 01 and 02 ("Turned away because of the input", ".. of the state"): "When an answer is an enum, a
-- definition gives this paper's number and values for each of its cases."
use Rattle.std.specs.Prelude.{ℕ}
use Rattle.refusal.specs.declared.reason.Reason.{Reason}
use Rattle.refusal.specs.declared.reason.Reason.TheVariants.{Short, Mark, Count, Domain, Pair, Order, Stray, Rules, Tail, Value, Variable, Room, Lent, Full, Bare, Done, Misfit, Locked, Depth, Triple, Many}
use Rattle.refusal.specs.declared.reason.Fault.{Fault}

abbrev pub number_of : Reason → ℕ
number_of Short = 1
number_of Mark = 2
number_of Count = 3
number_of Domain = 4
number_of Pair = 5
number_of Order = 6
number_of Stray = 7
number_of Rules = 8
number_of Tail = 9
number_of Value = 10
number_of Variable = 11
number_of Room = 12
number_of Lent = 13
number_of Full = 20
number_of Bare = 21
number_of Done = 22
number_of Misfit = 23
number_of Locked = 24
number_of Depth = 25
number_of Triple = 26
number_of Many = 27

-- "Reading tells the number and the place."
infixr 30 ◌at◌
abbrev pub ◌at◌ : Reason → ℕ → Fault
e at p = record { reason = e; place = p }
