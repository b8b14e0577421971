-- What the theorems speak of, besides the definitions of crate game.

-- The list of a turn ("A turn of a search starts from the list of the turn above with the new play narrowed, the first turn from the position").
pub mod TurnList
-- Rule sets that differ in rule 6 at most ("Jump back": it changes no verdict and no leaf).
pub mod OtherSets
-- Rule 1's removals with reasons, in any order ("Dead options are removed until none is left", with the set that rule 6 wants of a loss).
pub mod AnyOrder
-- Problems whose games are the same: alike inside their domains.
pub mod SameGame
