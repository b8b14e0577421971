-- The published game and its rules, as definitions that a reader holds beside document 01. Domains are tests of a variable and a value;
-- lists of masks state them.

-- What an accepted file states: variables, domains, constraints ("The job file").
pub mod Problem
-- The game over domains ("The game", first paragraph).
pub mod Game
-- Lists of masks, those that may be lent, and the game over one.
pub mod Lists
-- A position: the file's domains with each played variable narrowed.
pub mod Position
-- The plain list of plays that stand, and the depth beside it, fed by calls ("The game", second paragraph; document 02, card 6).
pub mod Calls
-- Open values and their counts ("Open options"; document 02, card 3).
pub mod Open
-- The verdict of a position and the winning values of its next variable.
pub mod Winning
-- One value against another variable's domain.
pub mod Support
-- Rule sets, and rules one after another ("The seven rules, as numbers added into a rule set").
pub mod Rule
-- Rule 1.
pub mod Arc
-- Rule 1's removals, in any order ("Dead options are removed until none is left").
pub mod Removals
-- Rule 2.
pub mod Forward
-- Rule 3.
pub mod LookAhead
-- Rule 4.
pub mod Pure
-- Rule 5.
pub mod Interchangeable
-- The turn: its rules in order, the list that they reach, and what its loss names.
pub mod Turn
-- Rules 1 to 3 with reasons, for the conflict sets of rule 6.
pub mod Reasons
-- The turns of a search under all seven rules.
pub mod Search
-- The turns that a search may come to ("A turn of a search starts from the list of the turn above with the new play narrowed, the first turn
-- from the position").
pub mod Turns
-- Rule 7's sentence as a turn ("an untried option of a day's choice is skipped if, and only if, ..").
pub mod Skipping
-- Three-way constraints, and the game with them (document 02, card 7).
pub mod Ternary
