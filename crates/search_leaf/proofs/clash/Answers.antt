use mathlib.Core.Path.{◌≡◌}
use Rattle.solver_arrays.specs.Arrays.{row_in}
use Rattle.search_leaf.specs.Leaf.{clashes}
use Rattle.search_leaf.proofs.clash.Goals as goal

pub returns : goal.returns
unfolding clashes
returns c = let r : c.row.result ≡ row_in c.args.arrays.now c.args.x c.value_of-a.result c.args.y = c.row.ensures in rw (r, c.value_of-a.ensures.0)
