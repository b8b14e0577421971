-- Open values of a position: those still usable.
use Rattle.std.specs.Prelude.{Bool, true, cond, not, ◌&&◌, ◌||◌, List, ℕ, eqb, ltb, leb, get_or, length}
use Rattle.mask.specs.Range.{some, each, count}
use Rattle.game.specs.Problem.{Problem}
use Rattle.game.specs.Lists.{domains, list_of, masks_of}
use Rattle.game.specs.Support.{clashes}

module _ (P : Problem) where
  open P use {n, domain, universal, compatible}

  -- Value a of variable j goes "with every played option".
  unfoldable pub goes_with_plays : List ℕ → ℕ → ℕ → Bool
  goes_with_plays p j a = each (length p) (λ i. true) (λ i. compatible i (get_or p i 0) j a)

  -- Why nothing is usable (document 02, card 3). "Two played options clash":
  unfoldable pub plays_clash : List ℕ → Bool
  plays_clash p = some (length p) (λ j. true) (λ j. some j (λ i. true) (λ i. not (compatible i (get_or p i 0) j (get_or p j 0))))

  -- "an unplayed shift's choice has no open option by the old rule": none of the file's mask goes with every played option;
  unfoldable pub existential_empty : List ℕ → Bool
  existential_empty p = some n (λ j. leb (length p) j && not (universal j)) (λ j. not (some 16 (domains domain j) (goes_with_plays p j)))

  -- "a played option clashes with some option of an unplayed day's choice", of the file's mask.
  unfoldable pub universal_clash : List ℕ → Bool
  universal_clash p = some n (λ j. leb (length p) j && universal j) (λ j. some (length p) (λ i. true) (λ i. clashes P (domains domain) i (get_or p i 0) j))

  -- One of the three: "then the open list of every unplayed choice is empty, the day's too".
  unfoldable pub stuck : List ℕ → Bool
  stuck p = plays_clash p || (existential_empty p || universal_clash p)

  -- "From now on open means still usable." Where it is: "For an unplayed choice of the shift: the options in the file's mask that go with every
  -- played option. For an unplayed choice of the day: the file's mask. For a played choice: the option played."
  unfoldable pub is_open : List ℕ → ℕ → ℕ → Bool
  is_open p j a =
      let free = goes_with_plays p j a in
      let usable = not (stuck p) && (domains domain j a && cond (universal j) true free) in
      cond (ltb j (length p)) (eqb a (get_or p j 0)) usable

  -- The masks of open values, and how many there are: "the reply also counts the options open at each choice".
  unfoldable pub open_values : List ℕ → List ℕ
  open_values p = masks_of n (is_open p)

  unfoldable pub open_counts : List ℕ → List ℕ
  open_counts p = list_of n (λ j. count 16 (is_open p j))
