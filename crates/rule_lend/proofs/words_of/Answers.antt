use mathlib.Core.Path.{ap}
use mathlib.Core.List.{List, ◌++◌}
use Prim.Native.Nat.{ℕ}
use Rattle.std.proofs.lemmas.List.{drop-replicate}
use Rattle.rule_lend.specs.Lend.{words_for}
use Rattle.rule_lend.proofs.words_of.Goals as goal

pub returns : goal.returns
unfolding words_for
returns c = rw c.copy_from_slice.ensures.after (ap (λ (r : List ℕ). c.args.list.now ++ r) (drop-replicate {X = ℕ} _ 128 0))
