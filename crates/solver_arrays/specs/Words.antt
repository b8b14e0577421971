-- The words of a turn: the n domains from 0 on, the n reasons from 32 on, each in two words with the low one first, the n values of a leaf from
-- 96 on.
use Rattle.std.specs.Prelude.{◌≡◌, cond, ◌&&◌, List, ℕ, ◌+◌, ◌-◌, ◌*◌, ◌/◌, ◌%◌, ◌<◌, eqb, ltb, leb, get_or, length, set, Result, Ok, Err}
use Rattle.game.specs.Lists.{list_of}
use Rattle.solver_arrays.specs.declared.words.Loss.{Loss}

-- The list of domains, and of reasons, that the words w hold.
unfoldable pub list_in : ℕ → List ℕ → List ℕ
list_in n w = list_of n (λ i. get_or w i 0)

unfoldable pub reason_in : List ℕ → ℕ → ℕ
reason_in w i = get_or w (32 + 2 * i) 0 + 65536 * get_or w (33 + 2 * i) 0

unfoldable pub why_in : ℕ → List ℕ → List ℕ
why_in n w = list_of n (reason_in w)

-- The leaf that the words w hold: a value for each variable.
unfoldable pub leaf_in : ℕ → List ℕ → List ℕ
leaf_in n w = list_of n (λ j. get_or w (96 + j) 0)

-- The words w with the reason r at i.
unfoldable pub put_reason : List ℕ → ℕ → ℕ → List ℕ
put_reason w i r = set (set w (32 + 2 * i) (r % 65536)) (33 + 2 * i) (r / 65536)

-- The half of a reason that stands at an even place, and at an odd one.
unfoldable pub half_of : ℕ → ℕ → ℕ
half_of k r = cond (eqb (k % 2) 0) (r % 65536) (r / 65536)

-- Word k of the words w with the list l and the reasons R in their places.
unfoldable pub word_of : ℕ → List ℕ → List ℕ → List ℕ → ℕ → ℕ
word_of n w l R k = cond (ltb k n) (get_or l k 0) (cond (leb 32 k && ltb k (32 + 2 * n)) (half_of k (get_or R ((k - 32) / 2) 0)) (get_or w k 0))

-- The words w with the list l and the reasons R in their places.
unfoldable pub holding : ℕ → List ℕ → List ℕ → List ℕ → List ℕ
holding n w l R = list_of (length w) (word_of n w l R)

-- None of the first n words is zero.
abbrev pub Nonzero : ℕ → List ℕ → Type 0
Nonzero n w = (j : ℕ) → j < n → ¬ (get_or w j 0 ≡ 0)

-- The conflict set of a loss; nothing where there is none.
abbrev pub conflict_of : {T : Type 0} → Result T Loss → ℕ
conflict_of (Ok x) = 0
conflict_of (Err e) = e.conflict
