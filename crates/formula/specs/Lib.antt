-- A problem as a quantified boolean formula (document 02, card 1). Each sentence of the card stands at the definition that answers it. Of the
-- rest, "its verdict equals that of the published game for every accepted job, and the emitted text read back is that formula" is proved in
-- formula_theory; "the judge is handed the job, writes the text into the lent buffer" and "Errors: 12 where the text does not fit, nothing
-- written" are for the crates that write.

-- A formula, and its judge.
pub mod Formula
-- The formula of a problem.
pub mod Encoding
-- The text of a formula, and the formula of a text.
pub mod Text
-- Booleans and literals in ascending order.
pub mod Ordered
