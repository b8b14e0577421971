-- Lists of words.
use Prim.Native.Nat.{ℕ, zero, suc, ◌≤◌}
use mathlib.Core.List.{List, [], ◌∷◌}
use lib.ListN.{get_or, set}

-- Where one is put that is at most k, those that are at most k stay so.
pub set_most : (l : List ℕ) (i v x k : ℕ) → x ≤ k → get_or l v 0 ≤ k → get_or (set l i x) v 0 ≤ k
set_most [] i v x k h g = g
set_most (y ∷ l) zero zero x k h g = h
set_most (y ∷ l) zero (suc v) x k h g = g
set_most (y ∷ l) (suc i) zero x k h g = g
set_most (y ∷ l) (suc i) (suc v) x k h g = set_most l i v x k h g
