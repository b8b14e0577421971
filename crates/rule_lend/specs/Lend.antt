-- What is tested of a lent list, and the words of a turn that it goes into.
use Rattle.std.specs.Prelude.{Bool, true, not, ◌&&◌, List, ◌++◌, ℕ, ◌-◌, eqb, ltb, get_or, length, replicate}
use Rattle.mask.specs.Range.{each}
use Rattle.refusal.specs.declared.reason.Reason.TheVariants.{Value, Variable, Lent}
use Rattle.refusal.specs.Chain.{Test, ◌then◌, need}
use Rattle.game.specs.Lists.{domains, within}

-- The mask m may be lent where the file's is d; so may mask i of the list l, where the file's are D.
unfoldable pub mask_fits : ℕ → ℕ → Bool
mask_fits m d = not (eqb m 0) && within m d

abbrev pub fits_at : List ℕ → List ℕ → ℕ → Bool
fits_at D l i = mask_fits (get_or l i 0) (get_or D i 0)

-- `may_lend` (game) of n variables with these domains.
unfoldable pub lendable : ℕ → List ℕ → List ℕ → Bool
lendable n D l = eqb (length l) n && each n (λ i. true) (fits_at D l)

-- a is a value, and one of variable x in the list.
unfoldable pub value_in : List ℕ → ℕ → ℕ → Bool
value_in l x a = ltb a 16 && domains l x a

-- The tests of a call, where `fits` says whether the list may be lent.
unfoldable pub list_test : Bool → Test
list_test fits = need fits Lent

unfoldable pub variable_test : Bool → ℕ → ℕ → Test
variable_test fits n x = list_test fits then need (ltb x n) Variable

unfoldable pub value_test : Bool → ℕ → List ℕ → ℕ → ℕ → Test
value_test fits n l x a = variable_test fits n x then need (value_in l x a) Value

-- The words of a turn with the list l in front, and zero behind it.
unfoldable pub words_for : List ℕ → List ℕ
words_for l = l ++ replicate (128 - length l) 0
