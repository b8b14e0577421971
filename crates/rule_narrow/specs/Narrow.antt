-- Rules 4 and 5 over the arrays. Free pairs are compatible, so only the neighbours of a variable count.
use Rattle.std.specs.Prelude.{◌≡◌, Bool, not, ◌&&◌, List, ℕ, eqb, get_or, set}
use Rattle.std.specs.Int.Bits.{bit_and}
use Rattle.mask.specs.Range.{some, each}
use Rattle.mask.specs.Mask.{bit, mask_of}
use Rattle.game.specs.Problem.{Problem}
use Rattle.game.specs.Lists.{domains}
use Rattle.game.specs.Rule.{uses, if_so}
use Rattle.game.specs.Pure.{pure, purged}
use Rattle.game.specs.Interchangeable.{interchangeable}
use Rattle.game.specs.Turn.{narrow_pure, narrow_interchangeable}
use Rattle.game.specs.Search.{narrow_next}
use Rattle.solver_arrays.specs.Arrays.{row_in, common_in, States}
use Rattle.solver_arrays.specs.Words.{list_in, why_in, holding}
use Rattle.solver_arrays.specs.declared.arrays.Arrays.{Arrays}

module _ (A : Arrays) (x : ℕ) (w : List ℕ) where
  -- The values of x that go with every value, in the words w, of each variable of the mask m.
  unfoldable pub common_to_all : ℕ → ℕ
  common_to_all m = mask_of 16 (λ a. each 32 (bit m) (λ j. bit (common_in A j (get_or w j 0) x) a))

  -- Values a and b of x go with the same values of j.
  unfoldable pub same_row : ℕ → ℕ → ℕ → Bool
  same_row a b j = eqb (bit_and (row_in A x a j) (get_or w j 0)) (bit_and (row_in A x b j) (get_or w j 0))

module _ (A : Arrays) (x : ℕ) (w : List ℕ) where
  -- They do so for each neighbour j: they are interchangeable.
  unfoldable pub interchange_in : ℕ → ℕ → Bool
  interchange_in a b = each 32 (bit (get_or A.near x 0)) (same_row A x w a b)

  -- Some value of the mask m is interchangeable with a.
  unfoldable pub some_interchange : ℕ → ℕ → Bool
  some_interchange a m = some 16 (bit m) (λ b. interchange_in b a)

  -- No smaller value of the domain is interchangeable with a.
  unfoldable pub is_representative : ℕ → Bool
  is_representative a = not (some a (bit (get_or w x 0)) (λ b. interchange_in b a))

  -- The values of the mask m that are the smallest of their group.
  unfoldable pub representatives_in : ℕ → ℕ
  representatives_in m = mask_of 16 (λ a. let k = is_representative a in bit m a && k)

-- The mask r is what rule 4 replies at x, in every problem that the arrays state.
abbrev pub RepliesPure : (A : Arrays) (x : ℕ) (w : List ℕ) (r : ℕ) → Type 0
RepliesPure A x w r = (P : Problem) → States P A.n A → r ≡ pure P x (list_in A.n w)

-- The mask r is what rule 5 replies there.
abbrev pub RepliesInterchangeable : (A : Arrays) (x : ℕ) (w : List ℕ) (r : ℕ) → Type 0
RepliesInterchangeable A x w r = (P : Problem) → States P A.n A → r ≡ interchangeable P x (list_in A.n w)

-- The mask r is the narrowing that rule 4 names, at any variable with these pure values, this domain and this side.
abbrev pub Purges : ℕ → ℕ → Bool → ℕ → Type 0
Purges pureOnes domain side r =
    (P : Problem) (x : ℕ) (l : List ℕ) → pureOnes ≡ pure P x l → domain ≡ get_or l x 0 → side ≡ P.universal x → r ≡ mask_of 16 (purged P (domains l) x)

-- The mask r is the domain of x that rule 4, and rule 5, leaves where it is used.
abbrev pub LeavesPure : (A : Arrays) (used : Bool) (x : ℕ) (w : List ℕ) (r : ℕ) → Type 0
LeavesPure A used x w r =
    (P : Problem) → States P A.n A → r ≡ get_or (if_so used (narrow_pure P x) (list_in A.n w)).list x 0

abbrev pub LeavesInterchangeable : (A : Arrays) (used : Bool) (x : ℕ) (w : List ℕ) (r : ℕ) → Type 0
LeavesInterchangeable A used x w r =
    (P : Problem) → States P A.n A → r ≡ get_or (if_so used (narrow_interchangeable P x) (list_in A.n w)).list x 0

-- The words e are w with the domain of x narrowed by rules 4 and 5, and hold the list that these leave with the reasons of w.
pub record Narrows (P : Problem) (n S x : ℕ) (w e : List ℕ) : Type 0 where
  pub words : e ≡ set w x (get_or (narrow_next P S x (list_in n w)).list x 0)
  pub list : list_in n e ≡ (narrow_next P S x (list_in n w)).list
  pub holds : e ≡ holding n w (narrow_next P S x (list_in n w)).list (why_in n w)

-- So in every problem that the arrays state, under any rule set that uses rules 4 and 5 as told.
abbrev pub NarrowsNext : (n : ℕ) (A : Arrays) (four five : Bool) (x : ℕ) (w e : List ℕ) → Type 0
NarrowsNext n A four five x w e =
    (P : Problem) (S : ℕ) → States P n A → uses S 4 ≡ four → uses S 5 ≡ five → Narrows P n S x w e
