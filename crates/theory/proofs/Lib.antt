-- Theorems of the game, of rules 1 to 5 and of the search. Start with Theorems: it holds the statements.
-- What they speak of stands in the specs of game and of this crate.

-- The statements, each with the sentence of document 01 that it answers.
pub mod Theorems
-- Each theorem at a small problem, and two plausible and wrong readings. The small problems themselves: crate small_problems.
pub mod Samples
-- Over domains -------------------------------------------------------------------------------------------------------------------
-- One move of the game, as a type.
pub mod Moves
-- The general laws: certificates, transfer, pruning, outcome.
pub mod Transfer
-- Values of one variable exchanged for better ones.
pub mod Swap
-- Narrowing, positions, losses.
pub mod Laws
-- Rules 1 to 3.
pub mod Arc
-- Look ahead where rule 1 finds no loss.
pub mod AheadIdle
-- Rule 1 leaves none dead, whatever the order.
pub mod Closure
-- Rule 4.
pub mod Pure
-- Rule 5.
pub mod Interchangeable
-- What a rule keeps at a turn.
pub mod Sound
-- The rules of a turn in their order.
pub mod Turn
-- The domains of a position.
pub mod Positions
-- Over lists of masks ------------------------------------------------------------------------------------------------------------
-- Lists against domains; lists that may be lent.
pub mod Lists
-- Lists in 32 places, zero behind them.
pub mod SpreadLaws
-- Rules 1 to 5 on lists.
pub mod OnLists
-- The turn on lists.
pub mod TurnLists
-- The narrowing of rule 4 by masks; lists after rules may be lent again.
pub mod Narrowings
-- Positions by calls, verdicts, winning values, open values.
pub mod Standing
-- Problems whose games are the same.
pub mod SameGame
-- Open values are what rule 2 leaves of a position's list.
pub mod OpenChecks
-- Rules that are switched off.
pub mod Sets
-- The search ---------------------------------------------------------------------------------------------------------------------
-- Conflict sets and boxes of values: what rules 6 and 7 rest on.
pub mod Conflict
-- The invariant of reasons, and the laws of removals and of losses.
pub mod Reasons
-- Reasons as a list of masks.
pub mod ReasonLists
-- Arc revisions with reasons, in any order.
pub mod Revisions
-- Rules 1 to 3 with reasons.
pub mod Explained
-- Rules 4 and 5 at the next variable.
pub mod Narrowed
-- One turn: the loops over values, the leaf, what is skipped.
pub mod Values
-- One value of a turn by the lowest member of the mask that is left.
pub mod ValueLaws
-- The law of the search.
pub mod Search
-- The list that a turn reaches does not depend on reasons.
pub mod Plain
-- The turns of a search, and what holds at each.
pub mod Turns
-- Variables without effect on others.
pub mod Quiet
-- What a turn's loss names: its conflict set holds the played neighbours.
pub mod Named
-- Rule 2 where all variables are played.
pub mod LastChecks
-- Conflict sets change no leaf.
pub mod SameLeaf
-- The search computed on small problems.
pub mod SearchSamples
-- Problems made of pairs, for samples.
pub mod Small
