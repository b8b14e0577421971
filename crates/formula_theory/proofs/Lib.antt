-- Theorems of a problem's formula (document 02, card 1).
-- "Its verdict equals that of the published game for every accepted job": `formula_verdict` (FormulaVerdict).
-- "The emitted text read back is that formula": `formula_read_back` (Printed).
-- "Booleans ascend in order of play", "literals ascend by their boolean's number": `formula_ordered` (OrderLaws).
-- Of 1 to 32 variables: at most 512 booleans, 127008 clauses, 2^40 bytes: `booleans_most` (PrefixLaws), `clauses_most` (CountLaws), `text_most`
-- (TextLength).

-- Lists that are joined: how long they are. Sums.
pub mod JoinedLaws
-- How many values, booleans and ways a variable has, and how many booleans come before it.
pub mod Widths
-- Each clause of a problem's formula, by its form.
pub mod Forms
-- How many booleans there are.
pub mod PrefixLaws
-- Booleans and literals ascend.
pub mod OrderLaws
-- Clauses that hold, by their parts.
pub mod Clauses
-- Blocks of booleans under one quantifier.
pub mod Blocks
-- What an assignment chooses of a variable.
pub mod Chosen
-- How many clauses there are.
pub mod CountLaws
-- The verdict of the formula is that of the game.
pub mod FormulaVerdict
-- The text of a formula read back is the formula.
pub mod ReadBack
-- So is that of every problem's formula.
pub mod Printed
-- How long the text is.
pub mod TextLength
-- Samples computed.
pub mod TextSamples
